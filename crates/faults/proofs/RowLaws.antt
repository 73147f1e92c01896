-- Laws about names, kept answers and lists. Assumes nothing.
use Prim.Native.Nat.{ℕ, zero, suc, ◌+◌, ◌≤◌, ◌<◌}
use mathlib.Core.Path.{◌≡◌, refl, sym, ap, ◌∙◌}
use mathlib.Core.Bool.{Bool, true, false, cond, not, ◌&&◌, ◌||◌}
use mathlib.Core.Option.{Option, some, none}
use mathlib.Core.List.{List, [], ◌∷◌}
use denote.Bor.{Bor}
use Rattle.std.specs.Prelude.{None}
use native.Mathlib.Numerals.{add-one}
use native.Mathlib.Omega.{arith}
use lib.Dec.{eqb, ltb}
use lib.ListN.{length, get_or, drop, drop_of_length-le}
use lib.Seq.{drop-cons, get_or-set_other}
use borrow.Author.Tests.{eqb-false, ltb-true, ltb-false}
use Rattle.plan.specs.Plan.{Environment}
use Rattle.plan.specs.Binding.{BindingRow}
use Rattle.plan.specs.Lookup.{binding_at}
use Rattle.plan.specs.Row.{Match, Equal, Loop, Return, Row, arm}
use Rattle.codegen.specs.Writer.{Marks, contains, insert}
use Rattle.codegen.specs.Pattern.{bind_all}
use Rattle.codegen.specs.Block.{Purpose, body, arm_count, is_constant}
use Rattle.origin.specs.Names.{listed, after_list, match_inside, match_opens, inside, opens, arm_inside, arm_opens}
use Rattle.rows.specs.View.{nth, patterns_in, block_of}
use Rattle.layout.specs.View.{cut}
use Rattle.view.specs.Told.{control_flow_of, constraint_of}
use Rattle.row_frames.specs.Told.{purpose_told, opens_told}
use Rattle.row_frames.specs.declared.Purpose as code
use Rattle.row_frames.specs.declared.Purpose.TheVariants as purposes
use Rattle.emits.specs.Marks.{set_of}
use Rattle.row_frames.specs.Rows.{rows_from, rows_next, rows_none}
use Rattle.view.specs.BlockRows.{step_is, arm_is}
use Rattle.splitting.specs.Cases.{false_true}
use Rattle.schedule_rules.specs.Faults.{any, returns_many, holds, calls_below, calls, uses, loop_unbound, list_calls, check_calls, own_new, source_uses_own, match_uses_own, row_faults, nowhere}
use Rattle.schedule_rules.specs.Found.{Lower, found}
use Rattle.schedule_rules.proofs.Found.{sources_found}
use Rattle.view.specs.Buffers.{env_of}
use Rattle.faults.specs.Kept.{bindings_of, asked_name, asked_call, answer, Known, Fresh, SameAnswers, Finds}
use Rattle.faults.specs.declared.kept.Kept.{Kept}
use Rattle.view.specs.declared.bindings.Bindings.{Bindings}
use Rattle.faults.specs.declared.written.Question.{Question}
use Rattle.faults.proofs.ExprLaws.{fresh_known, fresh_latest}
use Rattle.faults.specs.Ready.{Ready, Decides, member_calls}
use Rattle.row_frames.specs.Arms.{arms_in, opened_by}
use Rattle.faults.specs.Arms.{arm_names, own_used, arm_own}
use Rattle.faults.specs.Names.{NamesBecome}
use Rattle.faults.specs.declared.names.Names.{Names}
use Rattle.faults.specs.Step.{JudgesStep}
use Rattle.faults.specs.Row.{JudgesArm, JudgesRow}
use Rattle.faults.specs.declared.check.Step.{Step}
use Rattle.row_frames.specs.declared.Arms.{Arms}
use Rattle.row_frames.specs.declared.Arms.TheVariants.{One, Several}

-- KEPT ANSWERS

module _ (env : Environment) (bs : List BindingRow) (bound : Marks) where
  answer_calls : (b : ℕ) → answer false env bs [] bound b ≡ calls env bs bound b
  unfolding answer found asked_name asked_call calls calls_below
  answer_calls b = refl

  known_calls : {number : ℕ} {kept : List ℕ} → Known (calls env bs bound) number kept → Known (answer false env bs [] bound) number kept
  known_calls k = record { no = λ b h. answer_calls b ∙ k.no b h; yes = λ b h. answer_calls b ∙ k.yes b h }

  calls_known : {number : ℕ} {kept : List ℕ} → Known (answer false env bs [] bound) number kept → Known (calls env bs bound) number kept
  calls_known k = record { no = λ b h. sym (answer_calls b) ∙ k.no b h; yes = λ b h. sym (answer_calls b) ∙ k.yes b h }

  -- the sources of a member
  sources_calls : (b : ℕ) → Lower bs → any (answer false env bs [] bound) (binding_at bs b).sources ≡ any (calls_below env bs bound b) (binding_at bs b).sources
  unfolding answer found asked_name asked_call calls_below
  sources_calls b l = sym (sources_found nowhere (λ n. returns_many env (binding_at bs n).binding) bs bound l b)

-- whether calls that return many are written
abbrev pub asking_calls : Bor (List Bool) → Question
asking_calls names = record { bound = names; before = None }

module _ {t : Bindings} where
  pub ready_fresh : {bound : Marks} {k : Kept} → Fresh k.number k.answers.now → Ready t bound k
  ready_fresh h = record { low = omega (arith, h.below 0); room = h.room; latest = fresh_latest h; known = λ l. fresh_known h }

  module _ {names : Bor (List Bool)} {k k' : Kept} {r : Bool} (y : Ready t (set_of names.now) k) where
    -- after a question what is kept is right again
    pub ready_kept : {x : (ℕ → Bool) → Bool} → Finds (asking_calls names) t x k k' r → Ready t (set_of names.now) k'
    ready_kept f = record {
      low = rw f.number y.low;
      room = rw f.number y.room;
      latest = f.latest y.latest;
      known = λ l. calls_known (env_of t.plan.now) (bindings_of t) (set_of names.now) (f.known l (known_calls (env_of t.plan.now) (bindings_of t) (set_of names.now) (y.known l))).1;
    }

    pub decides_calls : (b : ℕ) → Finds (asking_calls names) t (λ f. f b) k k' r → Decides t (λ env bs. calls env bs (set_of names.now) b) r
    decides_calls b f = record { is = λ l. (f.known l (known_calls (env_of t.plan.now) (bindings_of t) (set_of names.now) (y.known l))).0 ∙ answer_calls (env_of t.plan.now) (bindings_of t) (set_of names.now) b }

    pub decides_member : (b : ℕ) → contains (set_of names.now) b ≡ false → Finds (asking_calls names) t (λ f. any f (binding_at (bindings_of t) b).sources) k k' r → Decides t (λ env bs. member_calls env bs (set_of names.now) b) r
    unfolding member_calls
    decides_member b h f = record { is = λ l. rw h ((f.known l (known_calls (env_of t.plan.now) (bindings_of t) (set_of names.now) (y.known l))).0 ∙ sources_calls (env_of t.plan.now) (bindings_of t) (set_of names.now) b l) }

pub decides_named : {t : Bindings} (bound : Marks) (b : ℕ) → contains bound b ≡ true → Decides t (λ env bs. member_calls env bs bound b) false
unfolding member_calls
decides_named bound b h = record { is = λ l. rw h refl }

-- LISTS

-- from member k of the list on, where the names were m₀ at its start
pub record Listing (t : Bindings) (list : List ℕ) (m₀ m : Marks) (k : ℕ) (found : Bool) : Type 0 where
  pub names : listed (drop k list) m ≡ listed list m₀
  pub faults : Lower (bindings_of t) → (found || list_calls (env_of t.plan.now) (bindings_of t) m (drop k list)) ≡ list_calls (env_of t.plan.now) (bindings_of t) m₀ list

or_assoc : (a b c : Bool) → ((a || b) || c) ≡ (a || (b || c))
or_assoc true b c = refl
or_assoc false b c = refl

or_false : (a : Bool) → (a || false) ≡ a
or_false true = refl
or_false false = refl

or_comm : (a b : Bool) → (a || b) ≡ (b || a)
or_comm true true = refl
or_comm true false = refl
or_comm false true = refl
or_comm false false = refl

listed_cons : (list : List ℕ) (k : ℕ) (m : Marks) → k < length list → listed (drop k list) m ≡ listed (drop (k + 1) list) (insert m (nth list k))
unfolding listed
listed_cons list k m h = rw (add-one, drop-cons list k 0 h)

calls_cons : (env : Environment) (bs : List BindingRow) (list : List ℕ) (k : ℕ) (m : Marks) → k < length list → list_calls env bs m (drop k list) ≡ (member_calls env bs m (nth list k) || list_calls env bs (insert m (nth list k)) (drop (k + 1) list))
unfolding list_calls member_calls
calls_cons env bs list k m h = rw (add-one, drop-cons list k 0 h)

module _ {t : Bindings} {list : List ℕ} {m₀ : Marks} where
  pub listing_start : Listing t list m₀ m₀ 0 false
  listing_start = record { names = refl; faults = λ l. refl }

  pub listing_next : {m m' : Marks} {k : ℕ} {found more r : Bool} → k < length list → Listing t list m₀ m k found → m' ≡ insert m (nth list k)
      → Decides t (λ env bs. member_calls env bs m (nth list k)) more → r ≡ (found || more) → Listing t list m₀ m' (k + 1) r
  listing_next {m} {m'} {k} {found} {more} h w q d e = record {
    names = rw q (sym (listed_cons list k m h) ∙ w.names);
    faults = λ l.
        rw (q, e, d.is l) (or_assoc found _ _ ∙ ap (λ (y : Bool). found || y) (sym (calls_cons (env_of t.plan.now) (bindings_of t) list k m h)) ∙ w.faults l);
  }

  pub listing_names : {m : Marks} {k : ℕ} {found : Bool} → length list ≤ k → Listing t list m₀ m k found → m ≡ listed list m₀
  unfolding listed
  listing_names {m} h w = sym (ap (λ (l : List ℕ). listed l m) (drop_of_length-le list h)) ∙ w.names

  pub listing_faults : {m : Marks} {k : ℕ} {found : Bool} → length list ≤ k → Listing t list m₀ m k found → Decides t (λ env bs. list_calls env bs m₀ list) found
  unfolding list_calls
  listing_faults {m} {k} {found} h w = record { is = λ l. sym (rw (drop_of_length-le list h) (or_false found)) ∙ w.faults l }

-- THE ARM'S OWN NAMES

any_like : (f g : ℕ → Bool) → ((n : ℕ) → f n ≡ g n) → (qs : List ℕ) → any f qs ≡ any g qs
unfolding any
any_like f g h [] = refl
any_like f g h (q ∷ qs) = rw (h q, any_like f g h qs)

-- names that agree where they are asked for
holds_like : (name other through : ℕ → Bool) (bs : List BindingRow) (bound : Marks) → ((n : ℕ) → contains bound n ≡ true → name n ≡ other n) → (k b : ℕ) → holds name through bs bound k b ≡ holds other through bs bound k b
unfolding holds
holds_like name other through bs bound h zero b = refl
holds_like name other through bs bound h (suc k) b = by_test (any_like (holds name through bs bound k) (holds other through bs bound k) (holds_like name other through bs bound h k) (binding_at bs b).sources) (contains bound b) refl
  where
    by_test : any (holds name through bs bound k) (binding_at bs b).sources ≡ any (holds other through bs bound k) (binding_at bs b).sources
        → (c : Bool) → contains bound b ≡ c → cond c (name b) (through b || any (holds name through bs bound k) (binding_at bs b).sources) ≡ cond c (other b) (through b || any (holds other through bs bound k) (binding_at bs b).sources)
    by_test e true q = h b q
    by_test e false q = rw e

-- nothing is found where nothing is asked for
any_none : (f : ℕ → Bool) → ((n : ℕ) → f n ≡ false) → (qs : List ℕ) → any f qs ≡ false
unfolding any
any_none f h [] = refl
any_none f h (q ∷ qs) = rw (h q, any_none f h qs)

cond_same : (c a b : Bool) → a ≡ false → b ≡ false → cond c a b ≡ false
cond_same true a b h g = h
cond_same false a b h g = g

holds_none : (bs : List BindingRow) (bound : Marks) (k b : ℕ) → holds nowhere nowhere bs bound k b ≡ false
unfolding holds
holds_none bs bound zero b = refl
holds_none bs bound (suc k) b = cond_same (contains bound b) false _ refl (any_none (holds nowhere nowhere bs bound k) (holds_none bs bound k) (binding_at bs b).sources)

not_own : (xs : List (Option ℕ)) (m : Marks) (n : ℕ) → contains m n ≡ true → own_new xs m n ≡ false
unfolding own_new
not_own [] m n h = refl
not_own (none ∷ xs) m n h = not_own xs m n h
not_own (some x ∷ xs) m n h = rw (h, and_false (eqb x n), not_own xs m n h)
  where
    and_false : (b : Bool) → (b && false) ≡ false
    and_false true = refl
    and_false false = refl

-- a name that came by the pattern is one of its own
is_own : (xs : List (Option ℕ)) (m m' : Marks) (n : ℕ) → contains m n ≡ false → contains m' n ≡ false → contains (bind_all xs m') n ≡ true → own_new xs m n ≡ true
unfolding own_new bind_all
is_own [] m m' n h g q = false_true (sym g ∙ q)
is_own (none ∷ xs) m m' n h g q = is_own xs m m' n h g q
is_own (some x ∷ xs) m m' n h g q = by_test (eqb x n) refl (λ o. is_own xs m (insert m' x) n h (get_or-set_other m' x n true false (λ e. o (sym e)) ∙ g) q)
  where
    by_test : (c : Bool) → eqb x n ≡ c → ((x ≡ n → ⊥) → own_new xs m n ≡ true) → ((c && not (contains m n)) || own_new xs m n) ≡ true
    by_test true e f = rw h refl
    by_test false e f = f (eqb-false x n e)

-- so (c) asks for the names that were not there before
own_is : (xs : List (Option ℕ)) (m : Marks) (n : ℕ) → contains (bind_all xs m) n ≡ true → own_new xs m n ≡ not (contains m n)
own_is xs m n q = by_test (contains m n) refl where
  by_test : (c : Bool) → contains m n ≡ c → own_new xs m n ≡ not c
  by_test true h = not_own xs m n h
  by_test false h = is_own xs m m n h h q

module _ (bs : List BindingRow) (m : Marks) (q : ℕ) (ws : List ℕ) where
  abbrev xs : List (Option ℕ)
  xs = patterns_in (drop 7 ws)

  uses_asked : (env : Environment) → uses (own_new xs m) bs (bind_all xs m) q ≡ answer true env bs m (bind_all xs m) q
  unfolding uses answer found asked_name asked_call
  uses_asked env = holds_like (own_new xs m) (λ n. not (contains m n)) nowhere bs (bind_all xs m) (own_is xs m) (suc q) q

  -- no name is new
  uses_none : bind_all xs m ≡ m → uses (own_new xs m) bs (bind_all xs m) q ≡ false
  unfolding uses
  uses_none h = rw h (holds_like (own_new xs m) nowhere nowhere bs m (λ n e. not_own xs m n e) (suc q) q ∙ holds_none bs m (suc q) q)

  pub own_none : bind_all xs m ≡ m → false ≡ own_used bs m q ws
  unfolding own_used
  own_none h = by_test (is_constant (constraint_of ws)) where
    by_test : (c : Bool) → false ≡ (not c && uses (own_new xs m) bs (bind_all xs m) q)
    by_test true = refl
    by_test false = sym (uses_none h)

  pub own_constant : is_constant (constraint_of ws) ≡ true → false ≡ own_used bs m q ws
  unfolding own_used
  own_constant h = rw h refl

  pub own_asked : (env : Environment) → is_constant (constraint_of ws) ≡ false → answer true env bs m (bind_all xs m) q ≡ own_used bs m q ws
  unfolding own_used
  own_asked env h = rw h (sym (uses_asked env))

-- STEPS

module _ {n n' : Names} {s : Step} where
  pub judges_loop : (result l : ℕ) (rs : List Row) → n'.bindings ≡ n.bindings → SameAnswers n.kept n'.kept → set_of n'.bound ≡ insert (set_of n.bound) result → opens_told s.opens ≡ some body
      → s.faults.a ≡ not (contains (set_of n.bound) (get_or (binding_at (bindings_of n.bindings) result).sources 0 0)) → s.faults.b ≡ false → s.faults.c ≡ false → JudgesStep n n' (Loop result) l rs s
  unfolding inside opens loop_unbound check_calls match_uses_own
  judges_loop result l rs z k e o a b c = record {
    bindings = z;
    same = k;
    names = λ p xs. e;
    frame = λ p xs. o;
    faults_a = record { is = λ y. a };
    faults_b = record { is = λ y. b };
    faults_c = record { is = λ y. c };
  }

  pub judges_return : (result pos l : ℕ) (rs : List Row) → NamesBecome n (set_of n.bound) n' → opens_told s.opens ≡ none
      → Decides n.bindings (λ env bs. calls env bs (set_of n.bound) result) s.faults.b → s.faults.a ≡ false → s.faults.c ≡ false → JudgesStep n n' (Return result pos) l rs s
  unfolding inside opens loop_unbound check_calls match_uses_own
  judges_return result pos l rs h o d x z = record {
    bindings = h.bindings;
    same = h.same;
    names = λ p xs. h.names;
    frame = λ p xs. o;
    faults_a = record { is = λ w. x };
    faults_b = d;
    faults_c = record { is = λ w. z };
  }

  pub judges_equal : {n₁ : Names} {first second : Bool} (a b l : ℕ) (rs : List Row) → NamesBecome n (set_of n.bound) n₁ → NamesBecome n₁ (set_of n₁.bound) n' → opens_told s.opens ≡ some body
      → Decides n.bindings (λ env bs. calls env bs (set_of n.bound) a) first → Decides n₁.bindings (λ env bs. calls env bs (set_of n₁.bound) b) second → s.faults.b ≡ (first || second) → s.faults.a ≡ false → s.faults.c ≡ false
      → JudgesStep n n' (Equal a b) l rs s
  unfolding inside opens loop_unbound check_calls match_uses_own
  judges_equal {n₁} {first} {second} a b l rs g i o d e h x z =
      let e' : Decides n.bindings (λ env bs. calls env bs (set_of n.bound) b) second = rw (g.bindings, g.names) at e in
      record {
        bindings = i.bindings ∙ g.bindings;
        same = (i.same.0 ∙ g.same.0, i.same.1 ∙ g.same.1);
        names = λ p xs. i.names ∙ g.names;
        frame = λ p xs. o;
        faults_a = record { is = λ w. x };
        faults_b = record { is = λ w. h ∙ rw (d.is w, e'.is w) };
        faults_c = record { is = λ w. z };
      }

-- a match of level l before the rows from row r on, by its arms
module _ (words rows : List ℕ) (l r last : ℕ) where
  abbrev after : List Row
  after = rows_from words rows last r

  abbrev Arm : List Row → Type 0
  Arm rs = (m : Marks) (bs : List BindingRow) (q : ℕ)
      → (match_inside (arm_count l rs) rs m ≡ arm_names (arms_in l rs) (cut words rows r) m)
      × (match_opens q (arm_count l rs) rs ≡ opened_by (arms_in l rs) q)
      × (source_uses_own bs m q (arm_count l rs) rs ≡ arm_own (arms_in l rs) bs m q (cut words rows r))

  by_count : (k : ℕ) (rs : List Row) (n : ℕ) (c : Bool) → eqb n 1 ≡ c → (m : Marks) (bs : List BindingRow) (q : ℕ)
      → (match_inside n (arm k (constraint_of (cut words rows r)) (patterns_in (drop 7 (cut words rows r))) ∷ rs) m ≡ arm_names (cond c One Several) (cut words rows r) m)
      × (match_opens q n (arm k (constraint_of (cut words rows r)) (patterns_in (drop 7 (cut words rows r))) ∷ rs) ≡ opened_by (cond c One Several) q)
      × (source_uses_own bs m q n (arm k (constraint_of (cut words rows r)) (patterns_in (drop 7 (cut words rows r))) ∷ rs) ≡ arm_own (cond c One Several) bs m q (cut words rows r))
  unfolding match_inside match_opens source_uses_own own_used
  by_count k rs n true h m bs q = (rw h refl, rw h refl, rw h refl)
  by_count k rs n false h m bs q = (rw h refl, rw h refl, rw h refl)

  by_kind : (c : Bool) → ltb (nth (cut words rows r) 1) 4 ≡ c → (rs : List Row) → Arm (block_of (cut words rows r) ∷ rs)
  unfolding match_inside match_opens source_uses_own arms_in
  by_kind true h rs = rw (step_is (cut words rows r) h) (λ m bs q. (refl, refl, refl))
  by_kind false h rs = rw (arm_is (cut words rows r) h) (by_count (nth (cut words rows r) 0) rs (arm_count l (arm (nth (cut words rows r) 0) (constraint_of (cut words rows r)) (patterns_in (drop 7 (cut words rows r))) ∷ rs)) _ refl)

  match_arms : Arm after
  unfolding match_inside match_opens source_uses_own arms_in
  match_arms = by_room (ltb r last) refl
    where
      by_room : (c : Bool) → ltb r last ≡ c → Arm after
      by_room true h = rw (rows_next words rows r last (ltb-true r last h)) (by_kind (ltb (nth (cut words rows r) 1) 4) refl (rows_from words rows last (r + 1)))
      by_room false h = rw (rows_none words rows r last (ltb-false r last h)) (λ m bs q. (refl, refl, refl))

  -- what a match does, by its arms: n₁ is of the names after the pattern of its one arm
  pub judges_match : {n n₁ n' : Names} {arms : Arms} {s : Step} (q : ℕ) → arms ≡ arms_in l after → NamesBecome n (arm_names arms (cut words rows r) (set_of n.bound)) n₁ → NamesBecome n₁ (set_of n₁.bound) n'
      → opens_told s.opens ≡ opened_by arms q → Decides n₁.bindings (λ env bs. calls env bs (set_of n₁.bound) q) s.faults.b
      → Decides n.bindings (λ env bs. arm_own arms bs (set_of n.bound) q (cut words rows r)) s.faults.c → s.faults.a ≡ false → JudgesStep n n' (Match q) l after s
  unfolding inside opens loop_unbound check_calls match_uses_own
  judges_match {n} {n₁} {n'} {arms} {s} q e g i o b c x =
      let names : set_of n₁.bound ≡ match_inside (arm_count l after) after (set_of n.bound) = g.names ∙ ap (λ (a : Arms). arm_names a (cut words rows r) (set_of n.bound)) e ∙ sym (match_arms (set_of n.bound) [] q).0 in
      let b' : Decides n.bindings (λ env bs. calls env bs (match_inside (arm_count l after) after (set_of n.bound)) q) s.faults.b = rw (g.bindings, names) at b in
      record {
        bindings = i.bindings ∙ g.bindings;
        same = (i.same.0 ∙ g.same.0, i.same.1 ∙ g.same.1);
        names = λ p xs. i.names ∙ names;
        frame = λ p xs. o ∙ ap (λ (a : Arms). opened_by a q) e ∙ sym (match_arms (set_of n.bound) [] q).1;
        faults_a = record { is = λ w. x };
        faults_b = b';
        faults_c = record { is = λ w. c.is w ∙ ap (λ (a : Arms). arm_own a (bindings_of n.bindings) (set_of n.bound) q (cut words rows r)) e ∙ sym (match_arms (set_of n.bound) (bindings_of n.bindings) q).2 };
      }

-- ROWS

module _ {n n' : Names} {saved : List Bool} (ws : List ℕ) (rs : List Row) where
  pub judges_arm : {p : Purpose} {s : Step} → ltb (nth ws 1) 4 ≡ false → JudgesArm n n' p (patterns_in (drop 7 ws)) s → ((nth ws 1 ≡ 3 → ⊥) → saved ≡ n.bound) → JudgesRow n n' p (nth ws 1) (block_of ws) rs saved s
  unfolding inside opens after_list row_faults
  judges_arm {p} {s} h a v = rw (arm_is ws h) (record {
    bindings = a.bindings;
    same = a.same;
    names = a.names;
    frame = a.frame;
    saved = λ k. ap set_of (v k);
    faults_a = record { is = λ l. a.none_a };
    faults_b = record { is = λ l. a.none_b };
    faults_c = record { is = λ l. a.none_c };
  })

  -- n₁ is of the names after the list
  pub judges_step : {n₁ : Names} {p : Purpose} {s s' : Step} {found : Bool} → ltb (nth ws 1) 4 ≡ true → NamesBecome n (listed (drop 7 ws) (set_of n.bound)) n₁
      → Decides n.bindings (λ env bs. list_calls env bs (set_of n.bound) (drop 7 ws)) found → JudgesStep n₁ n' (control_flow_of ws) (nth ws 0) rs s → ((nth ws 1 ≡ 3 → ⊥) → saved ≡ n₁.bound)
      → s'.faults.a ≡ s.faults.a → s'.faults.b ≡ (s.faults.b || found) → s'.faults.c ≡ s.faults.c → s'.opens ≡ s.opens → JudgesRow n n' p (nth ws 1) (block_of ws) rs saved s'
  unfolding after_list row_faults
  judges_step {n₁} {p} {s} {s'} {found} h g d j v a b c q =
      let ja : Decides n.bindings (λ env bs. loop_unbound bs (listed (drop 7 ws) (set_of n.bound)) (control_flow_of ws)) s.faults.a = rw (g.bindings, g.names) at j.faults_a in
      let jb : Decides n.bindings (λ env bs. check_calls env bs (listed (drop 7 ws) (set_of n.bound)) (nth ws 0) (control_flow_of ws) rs) s.faults.b = rw (g.bindings, g.names) at j.faults_b in
      let jc : Decides n.bindings (λ env bs. match_uses_own bs (listed (drop 7 ws) (set_of n.bound)) (nth ws 0) (control_flow_of ws) rs) s.faults.c = rw (g.bindings, g.names) at j.faults_c in
      rw (step_is ws h) (record {
        bindings = j.bindings ∙ g.bindings;
        same = (j.same.0 ∙ g.same.0, j.same.1 ∙ g.same.1);
        names = rw g.names at (j.names p (drop 7 ws));
        frame = ap opens_told q ∙ j.frame p (drop 7 ws);
        saved = λ k. ap set_of (v k) ∙ g.names;
        faults_a = record { is = λ l. a ∙ ja.is l };
        faults_b = record { is = λ l. b ∙ or_comm s.faults.b found ∙ rw (d.is l, jb.is l) };
        faults_c = record { is = λ l. c ∙ jc.is l };
      })

-- an arm that is no arm of a match of several
module _ {n : Names} {s : Step} where
  pub arm_other : (p : code.Purpose) (ps : List (Option ℕ)) → ((q : ℕ) → p ≡ purposes.ArmsOf q → ⊥) → s.opens ≡ None → s.faults.a ≡ false → s.faults.b ≡ false → s.faults.c ≡ false → JudgesArm n n (purpose_told p) ps s
  unfolding arm_inside arm_opens
  arm_other purposes.OneArm ps h o a b c = record { bindings = refl; same = (refl, refl); names = refl; frame = ap opens_told o; none_a = a; none_b = b; none_c = c }
  arm_other (purposes.ArmsOf q) ps h o a b c = absurd (h q refl)
  arm_other purposes.ArmBody ps h o a b c = record { bindings = refl; same = (refl, refl); names = refl; frame = ap opens_told o; none_a = a; none_b = b; none_c = c }
  arm_other purposes.Body ps h o a b c = record { bindings = refl; same = (refl, refl); names = refl; frame = ap opens_told o; none_a = a; none_b = b; none_c = c }
