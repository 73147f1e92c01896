use Rattle.view.specs.Buffers.{env_of}
use Rattle.plan.specs.Lookup.{term_at}
use Rattle.view.specs.Told.{function_told}
use Rattle.emits.specs.Sinks.{shows_none, shows_fix, ◌⟫ₛ◌}
use Rattle.emits.specs.Runs.{emits_say, ◌⟫◌}
use Rattle.expr_parts.proofs.Laws.{odd_called}
use Rattle.expr.proofs.between.call_head.Goals as goal

pub returns : goal.returns
returns c = λ d. c.mark_result.ensures.emits d ⟫ emits_say (odd_called (function_told c.args.sig.func) c.args.sig.is_extractor (term_at (env_of c.args.plan.now) c.args.sig.term.0)) (c.put_full_name.ensures d ⟫ₛ shows_fix c.put_bytes.ensures shows_none)
