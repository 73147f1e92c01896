use Prim.Native.Nat.{◌+◌}
use mathlib.Core.List.{[], ◌∷◌}
use mathlib.Core.Option.{some}
use lib.ListN.{length}
use Rattle.cells.specs.Words.{◌⧺◌}
use Rattle.cells.proofs.values.Laws.{◌⟫◌, writes_stop}
use Rattle.rows.proofs.put_text.Goals as goal

pub returns-in_err-push : goal.returns-in_err-push
unfolding ◌⧺◌
returns-in_err-push c = writes_stop (some ((c.args.from + length c.args.line.now) ∷ [])) c.from_residual.ensures c.in_err-push.ensures

pub returns : goal.returns
unfolding ◌⧺◌
returns c = c.in_ok-push.ensures ⟫ c.push-2.ensures
