use Rattle.std.proofs.Common.{◌≡◌, drop}
use Rattle.std.specs.Prelude.{◌&&◌}
use Rattle.plan.specs.Refusal.{every, allowed}
use Rattle.reader.proofs.all_allowed.Given as goal

abbrev pub invariant-loop-c : goal.invariant-loop-c
invariant-loop-c l = (l.good && every allowed (drop l.c-index l.s)) ≡ every allowed l.s
