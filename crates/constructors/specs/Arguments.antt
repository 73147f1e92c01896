-- The arguments of a term that are references, in the buffers. Assumes nothing.
use Rattle.std.specs.Prelude.{ℕ, zero, suc, ◌+◌, ◌-◌, ◌≤◌, ◌<◌, ◌≡◌, refl, Bool, true, false, cond, List, [], ◌∷◌, map, eqb, length, drop, get_or, Option, Some, None}
use Rattle.std.specs.List.{range_with_len, position_from}
use Rattle.std.proofs.Common.{sym, ap, ◌∙◌, add-one, arith, drop_of_length-le, drop-cons, ne_eqb}
use Rattle.plan.specs.Plan.{Environment}
use Rattle.plan.specs.Binding.{BindingRow}
use Rattle.plan.specs.Lookup.{argument_index}
use Rattle.codegen.specs.Writer.{Marks, insert}
use Rattle.codegen.specs.Sema.{is_ref}
use Rattle.codegen.specs.Terms.{is_index, mark_argument, argument_refs}
use Rattle.cells.specs.Value.{Wide}
use Rattle.rows.specs.View.{nth, wide_at, binding_made, binding_of}
use Rattle.layout.specs.View.{cuts}
use Rattle.view.specs.Buffers.{words_of}
use Rattle.view.specs.declared.buffers.Plan.{Plan}
use Rattle.context.specs.Context.{SameButRefs}
use Rattle.context.specs.declared.body_context.BodyContext.{BodyContext}

-- the bindings from row r up to row `last`
abbrev pub bindings_from : List ℕ → List ℕ → ℕ → ℕ → List BindingRow
bindings_from words rows last r = map binding_of (cuts words rows r (last - r))

-- the same of the rows of a plan
abbrev pub bindings_in : Plan → ℕ → ℕ → List BindingRow
bindings_in p last r = bindings_from p.words.now p.rows.now last r

-- what is found is marked
abbrev pub found_mark : Option ℕ → Marks → Marks
found_mark None m = m
found_mark (Some b) m = insert m b

-- FINDING

index_by : (i k a : ℕ) (w : Wide) → is_index i (argument_index (binding_made k a w)) ≡ cond (eqb k 3) (eqb i a) false
unfolding binding_made
index_by i zero a w = refl
index_by i (suc zero) a w = refl
index_by i (suc (suc zero)) a w = refl
index_by i (suc (suc (suc zero))) a w = refl
index_by i (suc (suc (suc (suc k)))) a w = rw (ne_eqb (suc (suc (suc (suc k)))) 3 (λ q. absurd (omega arith))) (others k)
  where
    others : (k : ℕ) → is_index i (argument_index (binding_made (suc (suc (suc (suc k)))) a w)) ≡ false
    others zero = refl
    others (suc zero) = refl
    others (suc (suc zero)) = refl
    others (suc (suc (suc zero))) = refl
    others (suc (suc (suc (suc zero)))) = refl
    others (suc (suc (suc (suc (suc zero))))) = refl
    others (suc (suc (suc (suc (suc (suc zero)))))) = refl
    others (suc (suc (suc (suc (suc (suc (suc zero))))))) = refl
    others (suc (suc (suc (suc (suc (suc (suc (suc zero)))))))) = refl
    others (suc (suc (suc (suc (suc (suc (suc (suc (suc zero))))))))) = refl
    others (suc (suc (suc (suc (suc (suc (suc (suc (suc (suc k)))))))))) = refl

pub index_is : (i : ℕ) (ws : List ℕ) → is_index i (argument_index (binding_of ws).binding) ≡ cond (eqb (nth ws 0) 3) (eqb i (nth ws 1)) false
unfolding binding_of
index_is i ws = index_by i (nth ws 0) (nth ws 1) (wide_at ws 2)

-- is the binding of row r argument i?
abbrev pub argument_at : Plan → ℕ → ℕ → Bool
argument_at p i r = is_index i (argument_index (binding_of (words_of p r)).binding)

-- the first that is found among n rows is marked; b is the number of the binding of row r
pub mark_found : (p : Plan) (i b r n : ℕ) (m : Marks) → mark_argument i b (map binding_of (cuts p.words.now p.rows.now r n)) m ≡ found_mark (position_from (argument_at p i) b (range_with_len r n)) m
unfolding mark_argument cuts
mark_found p i b r zero m = refl
mark_found p i b r (suc n) m = by (argument_at p i r) (ap (λ (k : ℕ). mark_argument i k (map binding_of (cuts p.words.now p.rows.now (r + 1) n)) m) (sym (add-one b)) ∙ mark_found p i (b + 1) (r + 1) n m)
  where
    by : (t : Bool) → mark_argument i (suc b) (map binding_of (cuts p.words.now p.rows.now (r + 1) n)) m ≡ found_mark (position_from (argument_at p i) (b + 1) (range_with_len (r + 1) n)) m
        → cond t (insert m b) (mark_argument i (suc b) (map binding_of (cuts p.words.now p.rows.now (r + 1) n)) m) ≡ found_mark (cond t (Some b) (position_from (argument_at p i) (b + 1) (range_with_len (r + 1) n))) m
    by true h = refl
    by false h = h

-- MARKING

pub same_all : {s : BodyContext} → SameButRefs s s
same_all = record { bound = refl; nesting = refl }

pub same_then : {s r t : BodyContext} → SameButRefs s r → SameButRefs r t → SameButRefs s t
same_then a b = record { bound = b.bound ∙ a.bound; nesting = b.nesting ∙ a.nesting }

module _ (env : Environment) (bs : List BindingRow) (i : ℕ) (ts : List ℕ) (m : Marks) where
  pub refs_next : {m' : Marks} (ty : ℕ) → i < length ts → ty ≡ get_or ts i 0 → m' ≡ cond (is_ref env ty) (mark_argument i 0 bs m) m → argument_refs env bs i (drop i ts) m ≡ argument_refs env bs (i + 1) (drop (i + 1) ts) m'
  unfolding argument_refs
  refs_next ty h q g = rw (drop-cons ts i 0 h, ← q, g, add-one)

  pub refs_end : length ts ≤ i → argument_refs env bs i (drop i ts) m ≡ m
  unfolding argument_refs
  refs_end h = rw (drop_of_length-le ts h)
