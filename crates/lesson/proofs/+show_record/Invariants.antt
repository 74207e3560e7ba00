-- Each part stands one level further down.
use Rattle.lesson.proofs.+show_record.Given as goal

abbrev pub decreases-show_record : goal.decreases-show_record
decreases-show_record g l = l.levels
