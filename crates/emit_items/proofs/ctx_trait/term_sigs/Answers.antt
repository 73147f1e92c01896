use native.Mathlib.Omega.{arith}
use Rattle.view.specs.Buffers.{env_of}
use Rattle.emits.specs.Sinks.{left_more, left_end}
use Rattle.emit_items.proofs.ctx_trait.Lists.{terms_next, terms_end, term_count}
use Rattle.emit_items.proofs.ctx_trait.term_sigs.Goals as goal

pub loop-i-preserved : goal.loop-i-preserved
loop-i-preserved c = left_more c.loop-i.invariant (terms_next (env_of c.args.plan.now) c.loop-i.i (omega (arith, term_count c.args.plan.now))) c.term_sig.ensures

pub returns : goal.returns
returns c = left_end c.loop-i.invariant (terms_end (env_of c.args.plan.now) c.loop-i.i (omega (arith, term_count c.args.plan.now)))
