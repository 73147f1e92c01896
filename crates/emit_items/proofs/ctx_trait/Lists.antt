-- The definition's lists from the middle on: their next part, and their end. Assumes nothing.
use Rattle.std.specs.Prelude.{◌≡◌, ℕ, suc, ◌+◌, ◌<◌, ◌≤◌, Bool, true, false, cond, List, [], ◌∷◌, ◌++◌, length, get_or, drop}
use mathlib.Core.Path.{refl, ap, ◌∙◌}
use mathlib.Core.Path as Path
use mathlib.Core.List.{append-nil, append_assoc}
use native.Mathlib.Omega.{arith}
use native.Mathlib.Numerals.{add-one}
use lib.ListN.{drop_of_length-le}
use lib.Seq.{drop-cons}
use Rattle.text.specs.Codes.{codes}
use Rattle.text.specs.Writes.{Writes}
use Rattle.text.specs.declared.sink.Sink.{Sink}
use Rattle.plan.specs.Plan.{absent, Environment}
use Rattle.plan.specs.Lookup.{type_at, term_at}
use Rattle.view.specs.Buffers.{rows_of, env_of}
use Rattle.view.specs.declared.buffers.Plan.{Plan}
use Rattle.view.proofs.Plans.{terms_count}
use Rattle.codegen.specs.Piece.{Piece, fix, num, type, type_text, render, bytes}
use Rattle.codegen.specs.ReturnKind.{by_return_kind}
use Rattle.codegen.specs.Sema.{is_ref, ExternalSig}
use Rattle.codegen.specs.Items.{join, type_name, type_names, ret_tuple, sig_params, term_sigs}
use Rattle.emits.specs.Sinks.{Shows, shows_text}
use Rattle.sema.specs.Types.{param_text}
use Rattle.emit_items.specs.TraitParts.{separator, joined, term_sig}

-- JOINED LISTS

join_from : (i : ℕ) (p : List Piece) (ps : List (List Piece)) → join (p ∷ ps) ≡ p ++ joined (suc i) ps
unfolding join joined separator
join_from i p [] = Path.sym (append-nil p)
join_from i p (q ∷ ps) = ap (λ (l : List Piece). p ++ (fix ", " refl ∷ l)) (join_from (suc i) q ps)

pub join_is : (ps : List (List Piece)) → join ps ≡ joined 0 ps
unfolding join joined separator
join_is [] = refl
join_is (p ∷ ps) = join_from 0 p ps

pub joined_last : (i : ℕ) (ps : List Piece) → joined i (ps ∷ []) ≡ separator i ++ ps
unfolding joined
joined_last i ps = ap (λ (l : List Piece). separator i ++ l) (append-nil ps)

-- SIGNATURES

-- a parameter's type
pub shows_param : {env : Environment} {d : ℕ} (n : ℕ) {w w' : Sink} → Writes (param_text env n) w w' → Shows env d (type_name env true n) w w'
unfolding type_name render bytes
shows_param {env} {d} n {w} {w'} p = by_ref (is_ref env n) p where
  by_ref : (b : Bool) → Writes (cond b (codes "&") [] ++ type_text env (type_at env n)) w w' → Shows env d (cond b (fix "&" refl ∷ type n ∷ []) (type n ∷ [])) w w'
  by_ref true q = shows_text (rw append-nil q)
  by_ref false q = shows_text (rw append-nil q)

module _ (env : Environment) (l : List ℕ) where
  module _ (i : ℕ) where
    pub names_next : i < length l → joined i (type_names env (drop i l)) ≡ (separator i ++ type_name env false (get_or l i 0)) ++ joined (i + 1) (type_names env (drop (i + 1) l))
    unfolding joined type_names
    names_next h = rw (add-one i, drop-cons l i 0 h, append_assoc) refl

    pub names_end : length l ≤ i → joined i (type_names env (drop i l)) ≡ []
    unfolding joined type_names
    names_end h = rw (drop_of_length-le l h) refl

    module _ (g : ExternalSig) where
      pub params_next : i < length l → joined i (sig_params env g i (drop i l))
          ≡ (separator i ++ (fix "arg" refl ∷ num i ∷ fix ": " refl ∷ type_name env true (get_or l i 0))) ++ joined (i + 1) (sig_params env g (i + 1) (drop (i + 1) l))
      unfolding joined sig_params
      params_next h = rw (add-one i, drop-cons l i 0 h, append_assoc) refl

      pub params_end : length l ≤ i → joined i (sig_params env g i (drop i l))
          ≡ joined i (by_return_kind g.ret_kind ((fix "returns: &mut Self::" refl ∷ g.func_name ++ (fix "_returns" refl ∷ [])) ∷ []) [] [])
      unfolding sig_params
      params_end h = rw (drop_of_length-le l h) refl

  pub ret_none : length l ≡ 0 → ret_tuple env l ≡ fix "()" refl ∷ []
  unfolding ret_tuple
  ret_none h = by_list l h where
    by_list : (l : List ℕ) → length l ≡ 0 → ret_tuple env l ≡ fix "()" refl ∷ []
    by_list [] h = refl
    by_list (n ∷ l) h = absurd (omega arith)

  pub ret_one : length l ≡ 1 → ret_tuple env l ≡ type_name env false (get_or l 0 0)
  unfolding ret_tuple
  ret_one h = by_list l h where
    by_list : (l : List ℕ) → length l ≡ 1 → ret_tuple env l ≡ type_name env false (get_or l 0 0)
    by_list [] h = absurd (omega arith)
    by_list (n ∷ []) h = refl
    by_list (n ∷ m ∷ l) h = absurd (omega arith)

  pub ret_more : (length l ≡ 0 → ⊥) → (length l ≡ 1 → ⊥) → ret_tuple env l ≡ fix "(" refl ∷ join (type_names env l) ++ (fix ")" refl ∷ [])
  unfolding ret_tuple
  ret_more h g = by_list l h g where
    by_list : (l : List ℕ) → (length l ≡ 0 → ⊥) → (length l ≡ 1 → ⊥) → ret_tuple env l ≡ fix "(" refl ∷ join (type_names env l) ++ (fix ")" refl ∷ [])
    by_list [] h g = absurd (h refl)
    by_list (n ∷ []) h g = absurd (g refl)
    by_list (n ∷ m ∷ l) h g = refl

module _ (env : Environment) (i : ℕ) where
  pub terms_next : i < length env.terms → term_sigs env (drop i env.terms) ≡ term_sig env (term_at env i) ++ term_sigs env (drop (i + 1) env.terms)
  unfolding term_sigs term_sig
  terms_next h = rw (add-one i, drop-cons env.terms i (record { name = 0; pos = 0; ret_ty = 0; multi = false; partial = false; ctor = absent; xtor = absent; infallible = false; arg_tys = [] }) h, append_assoc) refl

  pub terms_end : length env.terms ≤ i → term_sigs env (drop i env.terms) ≡ []
  unfolding term_sigs
  terms_end h = rw (drop_of_length-le env.terms h) refl

pub term_count : (p : Plan) → length (env_of p).terms ≡ length (rows_of p 6)
term_count p = terms_count p.words.now p.rows.now p.tables.now p.bytes.now
