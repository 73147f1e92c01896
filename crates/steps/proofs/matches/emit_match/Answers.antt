use Rattle.std.proofs.Common.{sym, ◌∙◌}
use Rattle.emits.specs.Marks.{set_of}
use Rattle.steps.proofs.CheckLaws.{own_same, own_nothing, match_of_none, match_of_one, match_of_several}
use Rattle.steps.proofs.matches.emit_match.Goals.{in-Absent, in-One, in-Several}
use Rattle.steps.proofs.matches.emit_match.Goals as goal

pub returns : goal.returns
returns c =
    let m = set_of c.args.bound.now in
    elim c.match-arms.branch [
      | in-Absent w ↦
          rw (c.opened_by.ensures, w.in-Absent.is, w.w-is, w.refs-is, w.bound-is)
          (own_same (match_of_none c.args.body.now m c.args.level c.args.first c.args.last c.args.q (sym w.in-Absent.is ∙ c.arms_of-arms.ensures)) own_nothing)
      | in-One w ↦
          rw (c.opened_by.ensures, w.in-One.is, w.w-is, w.refs-is, w.bound-is)
          (own_same (match_of_one c.args.body.now m c.args.level c.args.first c.args.last c.args.q (sym w.in-One.is ∙ c.arms_of-arms.ensures)) w.one_arm.ensures)
      | in-Several w ↦
          rw (c.opened_by.ensures, w.in-Several.is, w.w-is, w.refs-is, w.bound-is)
          (own_same (match_of_several c.args.body.now m c.args.level c.args.first c.args.last c.args.q (sym w.in-Several.is ∙ c.arms_of-arms.ensures)) w.several_arms.ensures)
    ]
