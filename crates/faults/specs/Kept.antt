-- What is asked of a written expression, and what is kept of the answers. Assumes nothing: these are definitions.
use Rattle.std.specs.Prelude.{ℕ, suc, ◌≤◌, ◌<◌, ◌≡◌, Bool, true, false, cond, not, ◌&&◌, List, [], eqb, length, get_or, Option, Some, None}
use denote.Bor.{Bor}
use Rattle.plan.specs.Plan.{Environment}
use Rattle.plan.specs.Binding.{BindingRow}
use Rattle.plan.specs.Lookup.{binding_at}
use Rattle.codegen.specs.Writer.{Marks, contains}
use Rattle.view.specs.Buffers.{env_of, bindings_in}
use Rattle.emits.specs.Marks.{set_of}
use Rattle.schedule_rules.specs.Faults.{returns_many}
use Rattle.schedule_rules.specs.Found.{Lower, found}
use Rattle.faults.specs.declared.kept.Kept.{Kept}
use Rattle.view.specs.declared.bindings.Bindings.{Bindings}
use Rattle.faults.specs.declared.written.Question.{Question}

-- those of the table of a generated term
abbrev pub bindings_of : Bindings → List BindingRow
bindings_of s = bindings_in s.plan.now s.table

-- what is asked: with `own`, (c)'s name that was not there before; else (b)'s call that returns many
unfoldable pub asked_name : Bool → Marks → ℕ → Bool
asked_name own before b = own && not (contains before b)

unfoldable pub asked_call : Bool → Environment → List BindingRow → ℕ → Bool
asked_call own e bs b = not own && returns_many e (binding_at bs b).binding

-- the answer for binding b
unfoldable pub answer : Bool → Environment → List BindingRow → Marks → Marks → ℕ → Bool
answer own e bs before bound b = found (asked_name own before) (asked_call own e bs) bs bound b

-- the same of a question of the code
abbrev pub is_own : Option (Bor (List Bool)) → Bool
is_own (Some m) = true
is_own None = false

abbrev pub names_in : Option (Bor (List Bool)) → Marks
names_in (Some m) = set_of m.now
names_in None = []

abbrev pub name_asked : Question → ℕ → Bool
name_asked q = asked_name (is_own q.before) (names_in q.before)

abbrev pub call_asked : Question → Bindings → ℕ → Bool
call_asked q s = asked_call (is_own q.before) (env_of s.plan.now) (bindings_of s)

abbrev pub answer_to : Question → Bindings → ℕ → Bool
answer_to q s = answer (is_own q.before) (env_of s.plan.now) (bindings_of s) (names_in q.before) (set_of q.bound.now)

-- what is kept for a number is the answer: the number itself says no, the next one yes
pub record Known (f : ℕ → Bool) (number : ℕ) (kept : List ℕ) : Type 0 where
  pub no : (b : ℕ) → get_or kept b 0 ≡ number → f b ≡ false
  pub yes : (b : ℕ) → get_or kept b 0 ≡ suc number → f b ≡ true

-- the answer that a word is, if it is one for this number
abbrev pub answer_kept : ℕ → ℕ → Option Bool
answer_kept number word = cond (eqb word number) (Some false) (cond (eqb word (suc number)) (Some true) None)

-- nothing is kept for a later number
pub record Latest (number : ℕ) (kept : List ℕ) : Type 0 where
  pub most : (b : ℕ) → get_or kept b 0 ≤ suc number

-- nothing is kept for this number, nor for a later one
pub record Fresh (number : ℕ) (kept : List ℕ) : Type 0 where
  pub below : (b : ℕ) → get_or kept b 0 < number
  pub room : number < 4294967295

-- the same lent buffer, as long as it was
abbrev pub SameAnswers : Kept → Kept → Type 0
SameAnswers k k' = (k'.answers.ghost_name ≡ k.answers.ghost_name) × (length k'.answers.now ≡ length k.answers.now)

-- r is x of the answers for each binding, the number stays, and what is kept stays right
pub record Finds (q : Question) (s : Bindings) (x : (ℕ → Bool) → Bool) (k k' : Kept) (r : Bool) : Type 0 where
  pub known : Lower (bindings_of s) → Known (answer_to q s) k.number k.answers.now → (r ≡ x (answer_to q s)) × Known (answer_to q s) k'.number k'.answers.now
  pub latest : Latest k.number k.answers.now → Latest k'.number k'.answers.now
  pub number : k'.number ≡ k.number
  pub same : SameAnswers k k'
