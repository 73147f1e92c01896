use Rattle.std.proofs.Common.{◌+◌, ◌<◌, arith}
use Rattle.codegen.specs.Block.{emit_check}
use Rattle.rows.specs.View.{nth}
use Rattle.body.specs.Told.{row_in, rows_in}
use Rattle.steps.proofs.CheckLaws.{own_deep, own_nested}
use Rattle.steps.proofs.check.emit_check.Goals as goal

pub returns-in-Match : goal.returns-in-Match
returns-in-Match c =
    let p = c.args.body.now.bindings.plan.now in
    own_nested (own_deep (λ d. omega (arith, c.in-Match.ensures.small)) (rw (c.in-Match.ensures.told, c.word-level.ensures, c.after.ensures p.words.now p.rows.now) at c.emit_match.ensures))

pub returns-in-Equal : goal.returns-in-Equal
returns-in-Equal c =
    let b = c.args.body.now in
    own_nested (own_deep (λ d. (omega (arith, c.in-Equal.ensures.small.0), omega (arith, c.in-Equal.ensures.small.1))) (rw c.in-Equal.ensures.told at (c.emit_equal.ensures (nth (row_in b c.args.r) 0) (rows_in b c.args.last (c.args.r + 1)))))

pub returns-in-Loop : goal.returns-in-Loop
returns-in-Loop c =
    let b = c.args.body.now in
    own_nested (own_deep (λ d. tt {0}) (rw c.in-Loop.ensures.told at (c.emit_loop.ensures c.args.refs.now (nth (row_in b c.args.r) 0) (rows_in b c.args.last (c.args.r + 1)))))

pub returns-in-Return : goal.returns-in-Return
unfolding emit_check
returns-in-Return c = rw (← c.in-Return.ensures.told) (own_deep {deep = c.args.nesting.depth + c.in-Return.result < 4611686018427387904} (λ d. omega (arith, c.in-Return.ensures.small)) c.emit_return.ensures)
