-- The generated terms in the buffers, one after the other. Assumes nothing.
use Rattle.std.specs.Prelude.{ℕ, ◌+◌, ◌≤◌, ◌<◌, ◌≡◌, length, get_or}
use Rattle.std.proofs.Common.{sym, arith}
use Rattle.std.proofs.Math.Path.{subst}
use Rattle.text.specs.Codes.{codes}
use Rattle.text.specs.Writes.{Writes, SameSink, writes_nil, writes_then}
use Rattle.text.specs.declared.sink.Sink.{Sink}
use Rattle.view.specs.Buffers.{env_of, plan_of}
use Rattle.view.specs.declared.buffers.Plan.{Plan}
use Rattle.view.proofs.Plans.{environment_is}
use Rattle.schedule_rules.specs.Passes.{Each}
use Rattle.row_frames.specs.Rows.{rows_from, Shallow, shallow_rows}
use Rattle.schedule_rules.specs.Faults.{table_faults}
use Rattle.schedule_rules.specs.Sheet.{table_lines, plan_lines, sheet}
use Rattle.checks.specs.Tests.{tables_at, generated_of}
use Rattle.checks.specs.declared.tables.GeneratedTables.{GeneratedTables}
use Rattle.checks.specs.Terms.{TermsLeft, terms_next, terms_done, block_rows}
use Rattle.view.specs.declared.bindings.Bindings.{Bindings}
use Rattle.faults.specs.Accepted.{TermFits}
use Rattle.faults.specs.Walk.{BlockPut}

-- the lines of the generated term that these tables hold are put
pub record TermPut (p : Plan) (g : GeneratedTables) (w w' : Sink) : Type 0 where
  pub same : SameSink w w'
  pub is : TermFits (generated_of p g) → Writes (table_lines (generated_of p g).term 0 (table_faults (env_of p) (generated_of p g))) w w'

module _ (p : Plan) (t : GeneratedTables) where
  pub term_put : {b : Bindings} {first last term places : ℕ} {w w' : Sink} → b.plan.now ≡ p → b.table ≡ t.bindings → first ≡ get_or p.tables.now t.block 0 → last ≡ get_or p.tables.now (t.block + 1) 0 → term ≡ (generated_of p t).term
      → places ≡ 65 → BlockPut b term first last places w w' → TermPut p t w w'
  unfolding table_faults
  term_put {first = first} {last = last} {places = places} z y h g e n b = record {
    same = b.same;
    is = λ f.
        let rows : rows_from p.words.now p.rows.now last first ≡ (generated_of p t).rows = block_rows p t.block h g in
        let s : Shallow p.words.now p.rows.now first last places = subst (Shallow p.words.now p.rows.now first last) (sym n) (shallow_rows p.words.now p.rows.now first last 64 (omega arith) (rw rows f.shallow)) in
        rw (← e) (rw rows at ((rw (z, y) at b.is) f.lower s));
  }

-- what is left to put, from the generated term i on, ends where the lines of all terms do
abbrev pub LinesLeft : Plan → Sink → ℕ → Sink → Type 0
LinesLeft p w₀ i w = TermsLeft p (Each TermFits) (λ gs. Writes (plan_lines (env_of p) gs)) w₀ i w

module _ {p : Plan} {w₀ : Sink} {i : ℕ} {w : Sink} (k : LinesLeft p w₀ i w) where
  pub lines_next : {g : GeneratedTables} {w' : Sink} → g ≡ tables_at i → i < length (plan_of p).generated → TermPut p g w w' → LinesLeft p w₀ (i + 1) w'
  unfolding plan_lines
  lines_next at h u = terms_next k at h (λ gs f. (f.1, λ w₂ q. writes_then (u.is f.0) q))

  pub sheet_done : {w₁ : Sink} → length (plan_of p).generated ≤ i → Writes (codes "term row fault\n") w₁ w₀ → Writes (sheet (plan_of p)) w₁ w
  unfolding plan_lines sheet
  sheet_done h u = writes_then u (rw (environment_is p.words.now p.rows.now p.tables.now p.bytes.now) (terms_done k h writes_nil))
