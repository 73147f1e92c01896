-- Laws about what is kept, and about a binding's sources one after the other. Assumes nothing.
use Prim.Native.Nat.{ℕ, zero, suc, ◌+◌, ◌≤◌, ◌<◌}
use mathlib.Core.Path.{◌≡◌, refl, sym, ap, ◌∙◌}
use mathlib.Core.Bool.{Bool, true, false, cond, ◌&&◌, ◌||◌}
use mathlib.Core.Logic.{◌⊎◌, inl, inr}
use mathlib.Core.List.{List, [], ◌∷◌}
use native.Mathlib.Numerals.{add-one}
use native.Mathlib.Omega.{arith}
use lib.Dec.{eqb, ltb}
use lib.ListN.{length, get_or, set, drop, drop_of_length-le}
use lib.Seq.{drop-cons, get_or-set_same, get_or-set_other, set_out}
use borrow.Author.Tests.{ltb-true, ltb-false, eqb-true, eqb-false}
use Rattle.std.proofs.Common.{eq-eqb, ne_eqb}
use Rattle.std.specs.Prelude as code
use Rattle.plan.specs.Plan.{Environment, Term}
use Rattle.view.specs.Told.{binding_told}
use Rattle.view.specs.declared.binding.Binding.{Binding}
use Rattle.view.specs.declared.binding.Binding.TheVariants as b
use Rattle.plan.specs.Lookup.{term_at, binding_at}
use Rattle.plan.specs.Refusal.{every}
use Rattle.codegen.specs.Writer.{contains}
use Rattle.codegen.specs.ReturnKind as kind
use Rattle.codegen.specs.ReturnKind.{ReturnKind, by_return_kind}
use Rattle.codegen.specs.Sema.{is_external, extractor_sig, constructor_sig}
use Rattle.rows.specs.View.{nth}
use Rattle.emits.specs.Marks.{set_of}
use Rattle.splitting.specs.Cases.{and_left, and_right}
use Rattle.schedule_rules.specs.Faults.{any, returns_many}
use Rattle.schedule_rules.specs.Found.{Lower}
use Rattle.schedule_rules.proofs.Found.{found_by_sources}
use Rattle.faults.specs.Kept.{bindings_of, answer_kept, answer, name_asked, call_asked, answer_to, Known, Latest, Fresh, SameAnswers, Finds}
use Rattle.faults.specs.declared.kept.Kept.{Kept}
use Rattle.view.specs.declared.bindings.Bindings.{Bindings}
use Rattle.faults.specs.declared.written.Question.{Question}

-- TERMS

iterator_first : (a b : Bool) (x y z : ReturnKind) → by_return_kind x true false false ≡ true → by_return_kind y true false false ≡ false → by_return_kind z true false false ≡ false → by_return_kind (cond a x (cond b y z)) true false false ≡ a
iterator_first true b x y z h g k = h
iterator_first false true x y z h g k = g
iterator_first false false x y z h g k = k

extractor_many : (t : Term) → by_return_kind (extractor_sig t).ret_kind true false false ≡ t.multi
unfolding extractor_sig by_return_kind
extractor_many t = iterator_first t.multi (t.infallible && is_external t.xtor) kind.Iterator kind.Plain kind.Option refl refl refl

constructor_many : (t : Term) → by_return_kind (constructor_sig t).ret_kind true false false ≡ t.multi
unfolding constructor_sig by_return_kind
constructor_many t = iterator_first t.multi t.partial kind.Iterator kind.Option kind.Plain refl refl refl

-- by the binding as code reads it
pub many_called : (e : Environment) (x : Binding) (m : ℕ) → (x ≡ b.Extractor m) ⊎ (x ≡ b.Constructor m) → returns_many e (binding_told x) ≡ (term_at e m).multi
unfolding returns_many
many_called e x m (inl h) = rw h (extractor_many (term_at e m))
many_called e x m (inr h) = rw h (constructor_many (term_at e m))

pub many_other : (e : Environment) (x : Binding) → ((m : ℕ) → x ≡ b.Extractor m → ⊥) → ((m : ℕ) → x ≡ b.Constructor m → ⊥) → returns_many e (binding_told x) ≡ false
unfolding returns_many
many_other e (b.ConstBool v) h g = refl
many_other e (b.ConstInt ty val) h g = refl
many_other e (b.ConstPrim v) h g = refl
many_other e (b.Argument i) h g = refl
many_other e (b.Extractor m) h g = absurd (h m refl)
many_other e (b.Constructor m) h g = absurd (g m refl)
many_other e b.Iterator h g = refl
many_other e (b.MakeVariant ty v) h g = refl
many_other e (b.MakeStruct ty) h g = refl
many_other e b.MakeSome h g = refl
many_other e b.MatchSome h g = refl
many_other e (b.MatchTuple n) h g = refl
many_other e (b.MatchVariant n) h g = refl
many_other e (b.ExtractStruct n) h g = refl

-- WHAT IS KEPT

pub fresh_known : {f : ℕ → Bool} {number : ℕ} {kept : List ℕ} → Fresh number kept → Known f number kept
fresh_known h = record { no = λ b q. absurd (omega (arith, h.below b, q)); yes = λ b q. absurd (omega (arith, h.below b, q)) }

pub fresh_latest : {number : ℕ} {kept : List ℕ} → Fresh number kept → Latest number kept
fresh_latest h = record { most = λ b. omega (arith, h.below b) }

pub latest_next : {number : ℕ} {kept : List ℕ} → number < 4294967292 → Latest number kept → Fresh (number + 2) kept
latest_next h l = record { below = λ b. omega (arith, l.most b); room = omega arith }

-- an entry after one is set: the old one, or the new one at its place
set_cases : (P : ℕ → Type 0) (l : List ℕ) (b v x : ℕ) → P (get_or l x 0) → (x ≡ b → P v) → P (get_or (set l b v) x 0)
set_cases P l b v x old new = by_place (eqb x b) refl
  where
    by_room : (c : Bool) → ltb b (length l) ≡ c → x ≡ b → P (get_or (set l b v) x 0)
    by_room true h q = rw (q, get_or-set_same l b v 0 (ltb-true b (length l) h)) (new q)
    by_room false h q = rw (set_out l b v (ltb-false b (length l) h)) old

    by_place : (c : Bool) → eqb x b ≡ c → P (get_or (set l b v) x 0)
    by_place true h = by_room (ltb b (length l)) refl (eqb-true x b h)
    by_place false h = rw (get_or-set_other l b x v 0 (eqb-false x b h)) old

-- an answer more is kept
abbrev mark : Bool → ℕ → ℕ
mark y number = cond y (suc number) number

mark_no : (y : Bool) (number : ℕ) → mark y number ≡ number → y ≡ false
mark_no true number h = absurd (omega arith)
mark_no false number h = refl

mark_yes : (y : Bool) (number : ℕ) → mark y number ≡ suc number → y ≡ true
mark_yes true number h = refl
mark_yes false number h = absurd (omega arith)

pub kept_no : (number word : ℕ) → word ≡ number → code.Some false ≡ answer_kept number word
kept_no number word h = rw (eq-eqb word number h) refl

pub kept_yes : (number word : ℕ) → word ≡ number + 1 → code.Some true ≡ answer_kept number word
kept_yes number word h = rw (ne_eqb word number (λ e. absurd (omega arith)), eq-eqb word (suc number) (omega arith)) refl

pub kept_none : (number word : ℕ) → (word ≡ number → ⊥) → (word ≡ number + 1 → ⊥) → code.None ≡ answer_kept number word
kept_none number word h g = rw (ne_eqb word number h, ne_eqb word (suc number) (λ e. g (omega arith))) refl

mark_most : (y : Bool) (number : ℕ) → mark y number ≤ suc number
mark_most true number = omega arith
mark_most false number = omega arith

pub known_more : {f : ℕ → Bool} {number : ℕ} {kept : List ℕ} (b : ℕ) (y : Bool) → y ≡ f b → Known f number kept → Known f number (set kept b (mark y number))
known_more {f} {number} {kept} b y h k = record {
  no = λ x. set_cases (λ n. n ≡ number → f x ≡ false) kept b (mark y number) x (k.no x) (λ q e. ap f q ∙ sym h ∙ mark_no y number e);
  yes = λ x. set_cases (λ n. n ≡ suc number → f x ≡ true) kept b (mark y number) x (k.yes x) (λ q e. ap f q ∙ sym h ∙ mark_yes y number e);
}

pub latest_more : {number : ℕ} {kept : List ℕ} (b : ℕ) (y : Bool) → Latest number kept → Latest number (set kept b (mark y number))
latest_more {number} {kept} b y l = record { most = λ x. set_cases (λ n. n ≤ suc number) kept b (mark y number) x (l.most x) (λ q. mark_most y number) }

-- EXPRESSIONS

module _ (q : Question) (s : Bindings) (b : ℕ) where
  answer_is : Lower (bindings_of s) → answer_to q s b ≡ cond (contains (set_of q.bound.now) b) (name_asked q b) (call_asked q s b || any (answer_to q s) (binding_at (bindings_of s) b).sources)
  unfolding answer
  answer_is l = found_by_sources (name_asked q) (call_asked q s) (bindings_of s) (set_of q.bound.now) l b

  -- a name
  pub finds_name : {k : Kept} {r : Bool} → contains (set_of q.bound.now) b ≡ true → r ≡ name_asked q b → Finds q s (λ f. f b) k k r
  finds_name h e = record { known = λ l k. (e ∙ sym (answer_is l ∙ rw h), k); latest = λ k. k; number = refl; same = (refl, refl) }

  -- the call itself
  pub finds_call : {k k' : Kept} → contains (set_of q.bound.now) b ≡ false → true ≡ call_asked q s b → k'.number ≡ k.number → k'.answers.now ≡ set k.answers.now b (suc k.number) → SameAnswers k k' → Finds q s (λ f. f b) k k' true
  finds_call {k} {k'} h e n a z = record {
    known = λ l w.
        let is : true ≡ answer_to q s b = sym (answer_is l ∙ rw (h, ← e)) in
        (is, rw (n, a) (known_more b true is w));
    latest = λ w. rw (n, a) (latest_more b true w);
    number = n;
    same = z;
  }

  -- the sources
  pub finds_through : {k k' k'' : Kept} {r : Bool} → contains (set_of q.bound.now) b ≡ false → false ≡ call_asked q s b → Finds q s (λ f. any f (binding_at (bindings_of s) b).sources) k k' r
      → k''.number ≡ k'.number → k''.answers.now ≡ set k'.answers.now b (mark r k'.number) → SameAnswers k' k'' → Finds q s (λ f. f b) k k'' r
  finds_through {k} {k'} {k''} {r} h e f n a z = record {
    known = λ l w.
        let g = f.known l w in
        let is : r ≡ answer_to q s b = g.0 ∙ sym (answer_is l ∙ rw (h, ← e)) in
        (is, rw (n, a) (known_more b r is g.1));
    latest = λ w. rw (n, a) (latest_more b r (f.latest w));
    number = n ∙ f.number;
    same = (z.0 ∙ f.same.0, z.1 ∙ f.same.1);
  }

-- SOURCES ONE BY ONE

any_cons : (f : ℕ → Bool) (qs : List ℕ) (i : ℕ) → i < length qs → any f (drop i qs) ≡ (f (nth qs i) || any f (drop (i + 1) qs))
unfolding any
any_cons f qs i h = rw (add-one, drop-cons qs i 0 h)

any_end : (f : ℕ → Bool) (qs : List ℕ) (i : ℕ) → length qs ≤ i → any f (drop i qs) ≡ false
unfolding any
any_end f qs i h = rw (drop_of_length-le qs h)

or_true : (x y : Bool) → x ≡ true → (x || y) ≡ true
or_true x y h = rw h refl

every_at : (P : ℕ → Bool) (qs : List ℕ) (i : ℕ) → i < length qs → every P qs ≡ true → P (get_or qs i 0) ≡ true
unfolding every
every_at P [] i h g = absurd (omega arith)
every_at P (q ∷ qs) zero h g = and_left (P q) (every P qs) g
every_at P (q ∷ qs) (suc i) h g = every_at P qs i (omega arith) (and_right (P q) (every P qs) g)

-- the sources of binding b
abbrev pub sources_of : Bindings → ℕ → List ℕ
sources_of s b = (binding_at (bindings_of s) b).sources

-- from source i of binding b on, what is left decides
pub record Left (q : Question) (s : Bindings) (b i : ℕ) (k₀ k : Kept) : Type 0 where
  pub known : Lower (bindings_of s) → Known (answer_to q s) k₀.number k₀.answers.now
      → (any (answer_to q s) (drop i (sources_of s b)) ≡ any (answer_to q s) (sources_of s b)) × Known (answer_to q s) k.number k.answers.now
  pub latest : Latest k₀.number k₀.answers.now → Latest k.number k.answers.now
  pub number : k.number ≡ k₀.number
  pub same : SameAnswers k₀ k

module _ {q : Question} {s : Bindings} {b : ℕ} where
  module _ {i : ℕ} {k₀ k : Kept} (h : i < length (sources_of s b)) (w : Left q s b i k₀ k) where
    -- each source is below its binding
    pub left_lower : b ≤ nth (sources_of s b) i → Left q s b (i + 1) k₀ k
    left_lower g = record {
      known = λ l x. absurd (omega (arith, ltb-true (nth (sources_of s b) i) b (every_at (λ q. ltb q b) (sources_of s b) i h (l.each b))));
      latest = w.latest;
      number = w.number;
      same = w.same;
    }

    -- a source that has it
    pub left_found : {k' : Kept} → Finds q s (λ f. f (nth (sources_of s b) i)) k k' true → Finds q s (λ f. any f (sources_of s b)) k₀ k' true
    left_found f = record {
      known = λ l x.
          let u = w.known l x in
          let v = f.known l u.1 in
          (sym (sym u.0 ∙ any_cons (answer_to q s) (sources_of s b) i h ∙ or_true _ _ (sym v.0)), v.1);
      latest = λ x. f.latest (w.latest x);
      number = f.number ∙ w.number;
      same = (f.same.0 ∙ w.same.0, f.same.1 ∙ w.same.1);
    }

    -- a source that has not
    pub left_next : {k' : Kept} → Finds q s (λ f. f (nth (sources_of s b) i)) k k' false → Left q s b (i + 1) k₀ k'
    left_next f = record {
      known = λ l x.
          let u = w.known l x in
          let v = f.known l u.1 in
          (sym (any_cons (answer_to q s) (sources_of s b) i h ∙ rw (← v.0) refl) ∙ u.0, v.1);
      latest = λ x. f.latest (w.latest x);
      number = f.number ∙ w.number;
      same = (f.same.0 ∙ w.same.0, f.same.1 ∙ w.same.1);
    }

  pub left_none : {i : ℕ} {k₀ k : Kept} → length (sources_of s b) ≤ i → Left q s b i k₀ k → Finds q s (λ f. any f (sources_of s b)) k₀ k false
  left_none {i} h w = record {
    known = λ l x. let u = w.known l x in (sym (any_end (answer_to q s) (sources_of s b) i h) ∙ u.0, u.1);
    latest = w.latest;
    number = w.number;
    same = w.same;
  }
