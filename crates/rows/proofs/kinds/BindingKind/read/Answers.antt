use mathlib.Core.Path.{◌≡◌, sym, ◌∙◌}
use Rattle.text.specs.Split.{split}
use Rattle.tokens.specs.Token.{told, place}
use Rattle.cells.specs.Value.{kind_word}
use Rattle.rows.specs.Row.{binding_kinds}
use Rattle.rows.proofs.Laws.{place_none, place_here, place_past}
use Rattle.rows.proofs.kinds.BindingKind.read.Goals as goal

pub returns-then-equal-13 : goal.returns-then-equal-13
unfolding binding_kinds split told kind_word
returns-then-equal-13 c = let p : place binding_kinds c.args.t.now ≡ 12 = place_past _ _ _ _ (sym c.equal.ensures ∙ c.if-equal.false) (place_past _ _ _ _ (sym c.equal-else-equal.ensures ∙ c.if-equal-2.false) (place_past _ _ _ _ (sym c.equal-else-equal-2.ensures ∙ c.if-equal-3.false) (place_past _ _ _ _ (sym c.equal-else-equal-3.ensures ∙ c.if-equal-4.false) (place_past _ _ _ _ (sym c.equal-else-equal-4.ensures ∙ c.if-equal-5.false) (place_past _ _ _ _ (sym c.equal-else-equal-5.ensures ∙ c.if-equal-6.false) (place_past _ _ _ _ (sym c.equal-else-equal-6.ensures ∙ c.if-equal-7.false) (place_past _ _ _ _ (sym c.equal-else-equal-7.ensures ∙ c.if-equal-8.false) (place_past _ _ _ _ (sym c.equal-else-equal-8.ensures ∙ c.if-equal-9.false) (place_past _ _ _ _ (sym c.equal-else-equal-9.ensures ∙ c.if-equal-10.false) (place_past _ _ _ _ (sym c.equal-else-equal-10.ensures ∙ c.if-equal-11.false) (place_past _ _ _ _ (sym c.equal-else-equal-11.ensures ∙ c.if-equal-12.false) (place_here _ _ _ (sym c.equal-else-equal-12.ensures ∙ c.if-equal-13.true))))))))))))) in rw p

pub returns-then-equal-14 : goal.returns-then-equal-14
unfolding binding_kinds split told kind_word
returns-then-equal-14 c = let p : place binding_kinds c.args.t.now ≡ 13 = place_past _ _ _ _ (sym c.equal.ensures ∙ c.if-equal.false) (place_past _ _ _ _ (sym c.equal-else-equal.ensures ∙ c.if-equal-2.false) (place_past _ _ _ _ (sym c.equal-else-equal-2.ensures ∙ c.if-equal-3.false) (place_past _ _ _ _ (sym c.equal-else-equal-3.ensures ∙ c.if-equal-4.false) (place_past _ _ _ _ (sym c.equal-else-equal-4.ensures ∙ c.if-equal-5.false) (place_past _ _ _ _ (sym c.equal-else-equal-5.ensures ∙ c.if-equal-6.false) (place_past _ _ _ _ (sym c.equal-else-equal-6.ensures ∙ c.if-equal-7.false) (place_past _ _ _ _ (sym c.equal-else-equal-7.ensures ∙ c.if-equal-8.false) (place_past _ _ _ _ (sym c.equal-else-equal-8.ensures ∙ c.if-equal-9.false) (place_past _ _ _ _ (sym c.equal-else-equal-9.ensures ∙ c.if-equal-10.false) (place_past _ _ _ _ (sym c.equal-else-equal-10.ensures ∙ c.if-equal-11.false) (place_past _ _ _ _ (sym c.equal-else-equal-11.ensures ∙ c.if-equal-12.false) (place_past _ _ _ _ (sym c.equal-else-equal-12.ensures ∙ c.if-equal-13.false) (place_here _ _ _ (sym c.equal-else-equal-13.ensures ∙ c.if-equal-14.true)))))))))))))) in rw p

pub returns-else-equal-14 : goal.returns-else-equal-14
unfolding binding_kinds split told kind_word
returns-else-equal-14 c = let p : place binding_kinds c.args.t.now ≡ 14 = place_past _ _ _ _ (sym c.equal.ensures ∙ c.if-equal.false) (place_past _ _ _ _ (sym c.equal-else-equal.ensures ∙ c.if-equal-2.false) (place_past _ _ _ _ (sym c.equal-else-equal-2.ensures ∙ c.if-equal-3.false) (place_past _ _ _ _ (sym c.equal-else-equal-3.ensures ∙ c.if-equal-4.false) (place_past _ _ _ _ (sym c.equal-else-equal-4.ensures ∙ c.if-equal-5.false) (place_past _ _ _ _ (sym c.equal-else-equal-5.ensures ∙ c.if-equal-6.false) (place_past _ _ _ _ (sym c.equal-else-equal-6.ensures ∙ c.if-equal-7.false) (place_past _ _ _ _ (sym c.equal-else-equal-7.ensures ∙ c.if-equal-8.false) (place_past _ _ _ _ (sym c.equal-else-equal-8.ensures ∙ c.if-equal-9.false) (place_past _ _ _ _ (sym c.equal-else-equal-9.ensures ∙ c.if-equal-10.false) (place_past _ _ _ _ (sym c.equal-else-equal-10.ensures ∙ c.if-equal-11.false) (place_past _ _ _ _ (sym c.equal-else-equal-11.ensures ∙ c.if-equal-12.false) (place_past _ _ _ _ (sym c.equal-else-equal-12.ensures ∙ c.if-equal-13.false) (place_past _ _ _ _ (sym c.equal-else-equal-13.ensures ∙ c.if-equal-14.false) (place_none _)))))))))))))) in rw p
