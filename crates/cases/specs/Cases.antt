-- What is known of a case that was read.
use Rattle.std.specs.Prelude.{ℕ, ◌≤◌}
use Rattle.cases.specs.declared.input.Case.{Case}

-- its options and its payload fill no more than their buffers, and its lengths are no more than they may be
pub record LiesWithin (options payload work text : ℕ) (case : Case) : Type 0 where
  pub options_fit : case.options ≤ options
  pub payload_fits : case.payload ≤ payload
  pub work_fits : case.work ≤ work
  pub text_fits : case.text ≤ text
