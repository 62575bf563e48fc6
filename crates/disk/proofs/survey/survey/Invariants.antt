use Rattle.std.proofs.Common.{vec_items}
use Rattle.disk.proofs.Surveys.{SurveyedTo}
use Rattle.disk.proofs.survey.survey.Given as goal

abbrev pub invariant-loop-block : goal.invariant-loop-block
invariant-loop-block g l = SurveyedTo (λ b f. (t : g.row.D.Denot) × g.D.Disk.faults t b f) l.block (g.D.Disk.meaning l.initial.disk) (vec_items l.unread) (g.D.Disk.meaning l.disk)
