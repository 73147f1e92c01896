-- What is measured and written gives the answer. Assumes nothing.
use Rattle.std.specs.Prelude.{ℕ, ◌+◌, ◌≤◌, ◌<◌, Bool, cond, ◌&&◌, List, ◌++◌, drop, Option, Some, None, Ok, Err}
use Rattle.std.specs.Bool.{then_some}
use Rattle.std.proofs.Math.Path.{◌≡◌, refl, sym}
use Rattle.std.proofs.Common.{ap, ◌∙◌, subst}
use Rattle.std.proofs.Math.Bool.{true, false}
use native.Mathlib.Omega.{arith}
use Rattle.std.proofs.Math.Dec.{leb}
use Rattle.std.proofs.Math.ListN.{length, take}
use Rattle.std.proofs.Math.Seq.{take-append_seam}
use borrow.Author.Tests.{ne_eqb, leb-true, leb-false, le-leb}
use Rattle.plan.specs.Plan.{Environment, Plan}
use Rattle.plan.specs.Refusal.{Outcome, refused, accepted, outcome}
use Rattle.codegen.specs.Piece.{render}
use Rattle.codegen.specs.Items.{items}
use Rattle.codegen.specs.Terms.{terms_text, odds, parts}
use Rattle.codegen.specs.Answer.{refuse, answer_of, answer, terms_answer, whole_text}
use Rattle.codegen.specs.OddLaws.{odds_le, odds_le_whole}
use Rattle.splitting.specs.Accepted.{refused_number}
use Rattle.reader.specs.Reading.{Says}
use Rattle.refusals.specs.Answered.{Indexes}
use Rattle.reader.specs.declared.Held.{Held as Laid}
use Rattle.refusal.specs.declared.Refusal.{Refusal}
use Rattle.refusal.specs.declared.Refusal.TheVariants.{Room}
use Rattle.text.specs.declared.sink.Sink.{Sink}
use Rattle.emits.specs.Sinks.{Shows}
use Rattle.view.proofs.Plans.{environment_is}
use Rattle.view.proofs.Held.{plan_is}
use Rattle.sema.specs.Holds.{VariantsIndexed}
use Rattle.view.specs.Buffers.{env_of, plan_of}
use Rattle.view.specs.declared.buffers.Plan as buffers
use Rattle.emitter.specs.declared.Text.{Text}
use Rattle.emitter.specs.Answered.{Emitted, Answers, uncounted, items_answer}
use Rattle.body.specs.Walks.{WritesParts}
use Rattle.emit_terms.specs.Accepted.{PlanFits, accepted_fits}
use Rattle.emitter.specs.Held.{Held, HeldIn, form_text, form_count, answer_with, answer_in, form_answer}
use Rattle.emitter.specs.declared.Form.{Form}
use Rattle.emitter.specs.declared.Form.TheVariants.{Whole, Terms, Items}
use Rattle.emitter.specs.Texts.{Texts, parts_written, texts_puts, puts_texts, texts_room, texts_fit, texts_written, Starts, WritesText, Measured}

-- THE TEXTS

pub form_le : (f : Form) (p : Plan) → form_count f p ≤ length (form_text f p)
form_le Whole p = odds_le_whole p
form_le Terms p = odds_le p
form_le Items p = omega arith

module _ (p : Plan) {w w' : Sink} where
  pub terms_written : WritesParts p.env (parts p) w w' → WritesText (terms_text p) (odds p) w w'
  unfolding terms_text odds
  terms_written x = parts_written x

  pub items_written : Starts w → Shows p.env 0 (items p) w w' → WritesText (render p.env 0 (items p)) 0 w w'
  items_written h q = record { buffer = q.is.buffer; size = q.is.size; end = q.is.end; texts = rw (q.is.odd, h.odd, h.at) (texts_puts (rw h.at at q.is.puts)) }

  pub whole_written : {w₁ : Sink} → Starts w → Shows p.env 0 (items p) w w₁ → WritesText (terms_text p) (odds p) w₁ w' → WritesText (whole_text p) (odds p) w w'
  unfolding whole_text
  whole_written h q r = record {
    buffer = r.buffer ∙ q.is.buffer;
    size = r.size ∙ q.is.size;
    end = r.end ∙ q.is.end;
    texts = rw (h.at, h.odd) (puts_texts (rw h.at at q.is.puts) (rw (q.is.end, q.is.odd, h.odd) at r.texts));
  }

-- THE ANSWER

module _ (t : List ℕ) (k : ℕ) (le : k ≤ length t) (room : ℕ) where
  -- where a text led to says whether it fits
  pub measured : {w w' : Sink} {r : Option Text} → Starts w → w.end ≡ room + 1 → WritesText t k w w' → r ≡ then_some (leb w'.at room && leb w'.odd room) (record { length = w'.at; count = w'.odd }) → Measured t k room w.out.now w'.out.now r
  measured {w} {w'} {r} h e q z = go (leb (length t) room) refl
    where
      texts : Texts (room + 1) t k w.out.now 0 0 w'.out.now w'.at w'.odd
      texts = rw (e, h.at, h.odd) at q.texts

      past : leb (length t) room ≡ false → (a b : Bool) → leb w'.at room ≡ a → leb w'.odd room ≡ b → then_some {T = Text} (a && b) (record { length = w'.at; count = w'.odd }) ≡ None
      past g true true x y = absurd (omega (arith, leb-false (length t) room g, texts_room texts le (omega (arith, leb-true w'.at room x)) (omega (arith, leb-true w'.odd room y))))
      past g true false x y = refl
      past g false b x y = refl

      go : (b : Bool) → leb (length t) room ≡ b → Measured t k room w.out.now w'.out.now r
      go true g =
          let l : length t ≤ room = leb-true (length t) room g in
          let f : (w'.at ≡ length t) × (w'.odd ≡ k) × (w'.out.now ≡ _) = texts_fit texts le (omega arith) in
          record { result = z ∙ rw (g, f.0, f.1, le-leb (length t) room l, le-leb k room (omega arith)) refl; bytes = λ a b. texts_written texts le (omega arith) b }
      go false g = record { result = z ∙ rw g (past g (leb w'.at room) (leb w'.odd room) refl refl); bytes = λ a b. absurd (omega (arith, leb-false (length t) room g)) }

  -- measured, and too long
  pub answers_none : {d d' : List ℕ} → Measured t k room d d' None → (o : List ℕ) → Answers (answer_with t k room) (Err Room) o o
  unfolding answer_with
  answers_none m o = go (leb (length t) room) m.result
    where
      go : (b : Bool) → ◌≡◌ {A = Option Text} None (then_some b (record { length = length t; count = k })) → Answers (cond b (record { number = 0; length = length t; count = k; text = t }) (refuse 11)) (Err Room) o o
      go true e = absurd (let z : ◌≡◌ {A = ℕ} 0 1 = cc in omega arith)
      go false e = record { number = refl; length = refl; count = refl; written = refl; bytes = refl }

  -- measured, and it fits
  fits : {x : Text} {d d' : List ℕ} → Measured t k room d d' (Some x) → (length t ≤ room) × (x.length ≡ length t) × (x.count ≡ k)
  fits {x} m = go (leb (length t) room) refl m.result
    where
      go : (b : Bool) → leb (length t) room ≡ b → ◌≡◌ {A = Option Text} (Some x) (then_some b (record { length = length t; count = k })) → (length t ≤ room) × (x.length ≡ length t) × (x.count ≡ k)
      go true g e = let q : x ≡ record { length = length t; count = k } = cc in (leb-true (length t) room g, ap (λ (y : Text). y.length) q, ap (λ (y : Text). y.count) q)
      go false g e = absurd (let z : ◌≡◌ {A = ℕ} 0 1 = cc in omega arith)

  text_given : {x : Text} {d d' o o' : List ℕ} → Measured t k room d d' (Some x) → o' ≡ t ++ drop (length t) o → Answers (answer_with t k room) (Ok x) o o'
  unfolding answer_with
  text_given m q = let f = fits m in rw (le-leb (length t) room f.0) (record { number = refl; length = f.1; count = f.2; written = refl; bytes = q })

  -- then it is written
  pub answers_text : {x : Text} {d d' o o' : List ℕ} {r : Option Text} → Measured t k room d d' (Some x) → room ≡ length o → Measured t k room o o' r → Answers (answer_with t k room) (Ok x) o o'
  answers_text m e n = let f = fits m in text_given m (n.bytes f.0 (rw e at f.0))

  -- measured into a draft that has all of it: then it is put from there
  pub answers_copied : {x : Text} {d d' o o' : List ℕ} → Measured t k room d d' (Some x) → x.length ≤ length d → o' ≡ take x.length d' ++ drop x.length o → Answers (answer_with t k room) (Ok x) o o'
  answers_copied {x} {d} {d'} {o} m g q =
      let f = fits m in
      let c : take (length t) d' ≡ t = rw (m.bytes f.0 (rw f.1 at g)) (take-append_seam t (drop (length t) d)) in
      text_given m (q ∙ rw (f.1, c) refl)

-- the forms are those of the definition
in_of : (f : Form) (room : ℕ) (o : Outcome) → uncounted (answer_in f room o) ≡ uncounted (answer_of (form_text f) room o)
unfolding answer_in answer_with answer_of
in_of f room (refused n) = refl
in_of f room (accepted p) = by_test (leb (length (form_text f p)) room)
  where
    by_test : (b : Bool) → uncounted (cond b (record { number = 0; length = length (form_text f p); count = form_count f p; text = form_text f p }) (refuse 11)) ≡ uncounted (cond b (record { number = 0; length = length (form_text f p); count = odds p; text = form_text f p }) (refuse 11))
    by_test true = refl
    by_test false = refl

no_count : (room : ℕ) (o : Outcome) → answer_in Items room o ≡ uncounted (answer_in Items room o)
unfolding answer_in answer_with
no_count room (refused n) = refl
no_count room (accepted p) = by_test (leb (length (form_text Items p)) room)
  where
    by_test : (b : Bool) → cond b (record { number = 0; length = length (form_text Items p); count = 0; text = form_text Items p }) (refuse 11) ≡ uncounted (cond b (record { number = 0; length = length (form_text Items p); count = 0; text = form_text Items p }) (refuse 11))
    by_test true = refl
    by_test false = refl

items_is : (plan : List ℕ) (room : ℕ) → answer_in Items room (outcome plan) ≡ items_answer plan room
unfolding items_answer
items_is plan room = no_count room (outcome plan) ∙ in_of Items room (outcome plan)

counted : (f : Form) → ((p : Plan) → form_count f p ≡ odds p) → (room : ℕ) (o : Outcome) → answer_in f room o ≡ answer_of (form_text f) room o
unfolding answer_in answer_with answer_of
counted f h room (refused n) = refl
counted f h room (accepted p) = rw (h p) refl

whole_is : (plan : List ℕ) (room : ℕ) → answer_in Whole room (outcome plan) ≡ answer plan room
unfolding answer
whole_is plan room = counted Whole (λ p. refl) room (outcome plan)

terms_is : (plan : List ℕ) (room : ℕ) → answer_in Terms room (outcome plan) ≡ terms_answer plan room
unfolding terms_answer
terms_is plan room = counted Terms (λ p. refl) room (outcome plan)

pub form_is : (f : Form) (plan : List ℕ) (room : ℕ) → answer_in f room (outcome plan) ≡ form_answer f plan room
form_is Whole = whole_is
form_is Terms = terms_is
form_is Items = items_is

-- THE READER'S ANSWER

module _ (f : Form) (s words rows tables : List ℕ) (room : ℕ) (o : List ℕ) where
  pub answers_refused : (r : Refusal) → Says (outcome s) s (Err r) words rows tables → Answers (form_answer f s room) (Err r) o o
  unfolding Says answer_in
  answers_refused r h = rw (form_is f s room) at (go (outcome s) refl h)
    where
      go : (x : Outcome) → outcome s ≡ x → Says x s (Err r) words rows tables → Answers (answer_in f room x) (Err r) o o
      go (refused m) e q = record { number = q; length = refl; count = refl; written = rw (ne_eqb m 0 (λ z. absurd (omega (arith, refused_number s m e)))) refl; bytes = refl }
      go (accepted p) e q = absurd q

  -- the tables that are held are there
  pub told_tables : (h : Laid) → Says (outcome s) s (Ok h) words rows tables → h.tables < length tables
  unfolding Says
  told_tables h i = go (outcome s) i
    where
      go : (x : Outcome) → Says x s (Ok h) words rows tables → h.tables < length tables
      go (refused m) q = absurd q
      go (accepted p) q = q.held

  pub answers_held : (h : Laid) {index : List ℕ} {r : Emitted} {o' : List ℕ} → Says (outcome s) s (Ok h) words rows tables → Indexes (Ok h) words rows tables index
      → ((p : Plan) → Held p s words rows (take (h.tables + 1) tables) index → Answers (answer_in f room (accepted p)) r o o') → Answers (form_answer f s room) r o o'
  unfolding Says Indexes
  answers_held h {index} {r} {o'} i v k = rw (form_is f s room) at (go (outcome s) refl i)
    where
      go : (x : Outcome) → outcome s ≡ x → Says x s (Ok h) words rows tables → Answers (answer_in f room x) r o o'
      go (refused m) e q = absurd q
      go (accepted p) e q = k p (record { accepts = e; is = sym (plan_is words rows tables h.rows h.tables q.index q.held s) ∙ q.is; indexed = v })

-- THE ENVIRONMENT

-- what the buffers hold, for the functions that write
module _ {p : Plan} (b : buffers.Plan) (h : HeldIn p b) where
  fits_of : PlanFits (plan_of b)
  fits_of = rw h.is (accepted_fits b.bytes.now p h.accepts)

  indexed_of : VariantsIndexed b
  indexed_of = record { indexed = h.indexed; others = rw (environment_is b.words.now b.rows.now b.tables.now b.bytes.now) at fits_of.others }

module _ {p : Plan} {b : buffers.Plan} {w w' : Sink} (h : HeldIn p b) where
  pub items_of : (VariantsIndexed b → Shows (plan_of b).env 0 (items (plan_of b)) w w') → Shows p.env 0 (items p) w w'
  items_of f = subst (λ (q : Plan). Shows q.env 0 (items q) w w') h.is (f (indexed_of b h))

  pub terms_of : (VariantsIndexed b → PlanFits (plan_of b) → WritesParts (env_of b) (parts (plan_of b)) w w') → WritesText (terms_text p) (odds p) w w'
  terms_of f =
      let e : (plan_of b).env ≡ env_of b = environment_is b.words.now b.rows.now b.tables.now b.bytes.now in
      let x : WritesParts (plan_of b).env (parts (plan_of b)) w w' = subst (λ (y : Environment). WritesParts y (parts (plan_of b)) w w') (sym e) (f (indexed_of b h) (fits_of b h)) in
      terms_written p (subst (λ (q : Plan). WritesParts q.env (parts q) w w') h.is x)
