use Rattle.std.proofs.Common.{refl, ◌∙◌}
use Rattle.codegen.specs.Block.{returning}
use Rattle.body.specs.Told.{env_in}
use Rattle.body.specs.Lines.{◌⟫ᵢ◌, lines_words}
use Rattle.body.specs.Words.{line_sink}
use Rattle.steps.proofs.returns.emit_return.Goals as goal

pub returns : goal.returns
unfolding returning
returns c = record {
  same =
      let x = c.put_rule.ensures.same in
      let y = c.put_log.ensures.same in
      let z = line_sink c.put_indent.ensures c.return_line.ensures.same c.put_byte.ensures in
      let t = (c.put_limit.ensures (env_in c.args.body.now)).same in
      (t.0 ∙ z.0 ∙ y.0 ∙ x.0, t.1 ∙ z.1 ∙ y.1 ∙ x.1, t.2 ∙ z.2 ∙ y.2 ∙ x.2);
  lines = λ g f i fs s.
      c.put_rule.ensures.lines _ fs _ s.depth ⟫ᵢ (c.put_log.ensures.lines _ fs _ s.depth ⟫ᵢ (lines_words s.depth c.put_indent.ensures (c.return_line.ensures.words g f) c.put_byte.ensures ⟫ᵢ (c.put_limit.ensures _).lines _ fs _ s));
  frame = λ x r. refl;
  bound = λ x r. refl;
}
