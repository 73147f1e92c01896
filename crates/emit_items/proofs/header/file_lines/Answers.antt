use native.Mathlib.Omega.{arith}
use Rattle.view.specs.Buffers.{env_of}
use Rattle.emits.specs.Sinks.{left_more, left_end}
use Rattle.emit_items.proofs.Lists.{files_next, files_end, file_count}
use Rattle.emit_items.proofs.header.file_lines.Goals as goal

pub loop-i-preserved : goal.loop-i-preserved
loop-i-preserved c = left_more c.loop-i.invariant (files_next (env_of c.args.plan.now).files c.loop-i.i (omega (arith, file_count c.args.plan.now))) c.file_line.ensures

pub returns : goal.returns
returns c = left_end c.loop-i.invariant (files_end (env_of c.args.plan.now).files c.loop-i.i (omega (arith, file_count c.args.plan.now)))
