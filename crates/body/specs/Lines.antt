-- What code does to a `Sink` that writes parts and lines that go by the marks of references: Leads.antt of a `Sink`. Assumes nothing.
use Rattle.std.specs.Prelude.{◌≡◌, refl, ℕ, suc, ◌+◌, ◌*◌, List, [], ◌∷◌, ◌++◌, length}
use Rattle.std.proofs.Common.{sym, ap, ◌∙◌, subst}
use Rattle.std.proofs.Math.Option.{Option}
use Rattle.text.specs.Codes.{codes}
use Rattle.text.specs.Sink.{spaces}
use Rattle.text.specs.Writes.{Writes}
use Rattle.text.specs.declared.sink.Sink.{Sink}
use Rattle.plan.specs.Plan.{Environment}
use Rattle.codegen.specs.Writer.{Marks, Writer}
use Rattle.codegen.specs.Block.{Line, words, overflow, Part, Frame, closures, iter_overflow_action, text_of, odds_of}
use Rattle.codegen.specs.Block as block
use Rattle.emits.specs.Runs.{Emits}
use Rattle.context.specs.Laws.{parts_puts}
use Rattle.body.specs.Leads as at
use Rattle.body.specs.Leads.{place_append, said_line, said_refs}

-- from here, the parts x lead there; a gives the marks after them. The lent buffer and the room are the same.
pub record Leads (env : Environment) (x : Marks → List Part) (a : Marks → Marks) (w : Sink) (q : Marks) (w' : Sink) (q' : Marks) : Type 0 where
  pub buffer : w'.out.ghost_name ≡ w.out.ghost_name
  pub size : length w'.out.now ≡ length w.out.now
  pub end : w'.end ≡ w.end
  pub leads : at.Leads w.end env x a w.out.now w.at w.odd q w'.out.now w'.at w'.odd q'

infixr 5 ◌⟫ₗ◌
pub ◌⟫ₗ◌ : {env : Environment} {x y : Marks → List Part} {a b : Marks → Marks} {w : Sink} {q : Marks} {w₁ : Sink} {q₁ : Marks} {w₂ : Sink} {q₂ : Marks}
    → Leads env x a w q w₁ q₁ → Leads env y b w₁ q₁ w₂ q₂ → Leads env (λ r. x r ++ y (a r)) (λ r. b (a r)) w q w₂ q₂
◌⟫ₗ◌ {env} {x} {y} {a} {b} {w} {q} {w₁} {q₁} {w₂} {q₂} u v = record {
  buffer = v.buffer ∙ u.buffer;
  size = v.size ∙ u.size;
  end = v.end ∙ u.end;
  leads = at.◌⟫ₗ◌ u.leads (subst (λ (e : ℕ). at.Leads e env y b w₁.out.now w₁.at w₁.odd q₁ w₂.out.now w₂.at w₂.odd q₂) u.end v.leads);
}

pub leads_none : {env : Environment} {w : Sink} {q : Marks} → Leads env (λ r. []) (λ r. r) w q w q
leads_none = record { buffer = refl; size = refl; end = refl; leads = at.leads_none }

-- only the marks that there are count
pub leads_same : {env : Environment} {x y : Marks → List Part} {a b : Marks → Marks} {w : Sink} {q : Marks} {w' : Sink} {q' : Marks} → x q ≡ y q → a q ≡ b q → Leads env x a w q w' q' → Leads env y b w q w' q'
leads_same h g u = record { buffer = u.buffer; size = u.size; end = u.end; leads = at.leads_same h g u.leads }

-- LINES of row i, inside the frames fs

pub record LinesLead (env : Environment) (i : Option ℕ) (fs : List Frame) (x : Marks → List Line) (a : Marks → Marks) (w : Sink) (q : Marks) (w' : Sink) (q' : Marks) : Type 0 where
  pub is : Leads env (λ r. block.place i fs (x r)) a w q w' q'

module _ {env : Environment} {i : Option ℕ} {fs : List Frame} where
  infixr 5 ◌⟫ᵢ◌
  pub ◌⟫ᵢ◌ : {x y : Marks → List Line} {a b : Marks → Marks} {w : Sink} {q : Marks} {w₁ : Sink} {q₁ : Marks} {w₂ : Sink} {q₂ : Marks}
      → LinesLead env i fs x a w q w₁ q₁ → LinesLead env i fs y b w₁ q₁ w₂ q₂ → LinesLead env i fs (λ r. x r ++ y (a r)) (λ r. b (a r)) w q w₂ q₂
  ◌⟫ᵢ◌ {x} {y} {a} {q = q} u v = record { is = leads_same (sym (place_append i fs (x q) (y (a q)))) refl (u.is ⟫ₗ v.is) }

  pub lines_none : {w : Sink} {q : Marks} → LinesLead env i fs (λ r. []) (λ r. r) w q w q
  unfolding block.place
  lines_none = record { is = leads_none }

  pub lines_same : {x y : Marks → List Line} {a b : Marks → Marks} {w : Sink} {q : Marks} {w' : Sink} {q' : Marks} → x q ≡ y q → a q ≡ b q → LinesLead env i fs x a w q w' q' → LinesLead env i fs y b w q w' q'
  lines_same h g u = record { is = leads_same (ap (block.place i fs) h) g u.is }

-- a line d deep: its indentation, its text, its end
module _ {env : Environment} {i : Option ℕ} {fs : List Frame} {d : ℕ} {w w₁ w₂ w' : Sink} {q : Marks} where
  -- words
  pub lines_words : {v : Writer} {q' : Marks} → d ≡ closures fs + suc (length fs) → Writes (spaces (4 * d)) w w₁ → Emits env d v w₁ q w₂ q' → Writes (10 ∷ []) w₂ w'
      → LinesLead env i fs (said_line v) (said_refs v) w q w' q'
  lines_words {v} h x y z = record {
    is = record {
      buffer = z.buffer ∙ y.buffer ∙ x.buffer;
      size = z.size ∙ y.size ∙ x.size;
      end = z.end ∙ y.end ∙ x.end;
      leads = rw z.odd (at.lines_words {v = v} h x.puts (rw (x.end, x.odd) at y.emits) (rw (y.end ∙ x.end) at z.puts)).is;
    };
  }

  -- the overflow line
  pub lines_overflow : d ≡ closures fs + suc (length fs) → Writes (spaces (4 * d)) w w₁
      → Writes (codes "if returns.len() >= MAX_ISLE_RETURNS { " ++ (iter_overflow_action (closures fs) ++ codes " }")) w₁ w₂ → Writes (10 ∷ []) w₂ w'
      → LinesLead env i fs (λ r. overflow ∷ []) (λ r. r) w q w' q
  lines_overflow h x y z = record {
    is = record {
      buffer = z.buffer ∙ y.buffer ∙ x.buffer;
      size = z.size ∙ y.size ∙ x.size;
      end = z.end ∙ y.end ∙ x.end;
      leads = rw (z.odd ∙ y.odd ∙ x.odd) (at.lines_overflow h x.puts (rw x.end at y.puts) (rw (y.end ∙ x.end) at z.puts)).is;
    };
  }

-- parts whose bytes are put at once, and which have no odd literal
pub leads_text : {env : Environment} {ps : List Part} {w w' : Sink} {q : Marks} → odds_of ps ≡ 0 → Writes (text_of env ps) w w' → Leads env (λ r. ps) (λ r. r) w q w' q
leads_text h x = record { buffer = x.buffer; size = x.size; end = x.end; leads = rw x.odd (at.leads_parts (parts_puts h x.puts)) }
