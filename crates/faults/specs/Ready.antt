-- What is kept of the answers between two questions, and what a question decides. Assumes nothing: these are definitions.
use Rattle.std.specs.Prelude.{ℕ, ◌<◌, ◌≡◌, Bool, not, ◌&&◌, List}
use Rattle.plan.specs.Plan.{Environment}
use Rattle.plan.specs.Binding.{BindingRow}
use Rattle.plan.specs.Lookup.{binding_at}
use Rattle.codegen.specs.Writer.{Marks, contains}
use Rattle.schedule_rules.specs.Faults.{any, calls_below, calls}
use Rattle.schedule_rules.specs.Found.{Lower}
use Rattle.view.specs.Buffers.{env_of}
use Rattle.faults.specs.Kept.{bindings_of, Known, Latest}
use Rattle.faults.specs.declared.kept.Kept.{Kept}
use Rattle.view.specs.declared.bindings.Bindings.{Bindings}

-- where the names are `bound`, what is kept for the number says of each binding whether a call that returns many is written with it
pub record Ready (t : Bindings) (bound : Marks) (k : Kept) : Type 0 where
  pub low : 0 < k.number
  pub room : k.number < 4294967295
  pub latest : Latest k.number k.answers.now
  pub known : Lower (bindings_of t) → Known (calls (env_of t.plan.now) (bindings_of t) bound) k.number k.answers.now

-- of these bindings, r is what x says
pub record Decides (t : Bindings) (x : Environment → List BindingRow → Bool) (r : Bool) : Type 0 where
  pub is : Lower (bindings_of t) → r ≡ x (env_of t.plan.now) (bindings_of t)

-- (b) of one member of a list
unfoldable pub member_calls : Environment → List BindingRow → Marks → ℕ → Bool
member_calls e bs bound b = not (contains bound b) && any (calls_below e bs bound b) (binding_at bs b).sources
