-- Each arm is the definition's clause for its rule.
use Rattle.tree.proofs.own.text_fits.Goals as goal

pub returns-in-NoText : goal.returns-in-NoText
returns-in-NoText c = rw c.in-NoText.is

pub returns-in-Free : goal.returns-in-Free
returns-in-Free c = rw c.in-Free.is

pub returns-in-Byte : goal.returns-in-Byte
returns-in-Byte c = rw c.in-Byte.is
