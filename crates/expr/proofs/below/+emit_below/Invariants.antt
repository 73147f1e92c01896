use Rattle.std.proofs.Common.{◌-◌}
use Rattle.emits.specs.Marks.{set_of}
use Rattle.expr.specs.Between.{row_of, source_count}
use Rattle.expr.specs.Told.{env_in}
use Rattle.expr.proofs.Loops.{Stands}
use Rattle.expr.proofs.below.+emit_below.Given as goal

-- the sources of a binding are lower bindings
abbrev pub decreases-emit_below : goal.decreases-emit_below
decreases-emit_below l = l.b

-- fewer of them are left
abbrev pub decreases-loop-next : goal.decreases-loop-next
decreases-loop-next l =
    let row = row_of l.scope.bindings l.b in
    source_count (env_in l.scope) row.binding row.sources - l.expression.written

abbrev pub invariant-loop-next : goal.invariant-loop-next
invariant-loop-next l = Stands l.scope l.depth l.b l.initial.w (set_of l.initial.refs) l.expression l.w (set_of l.refs) l.next
