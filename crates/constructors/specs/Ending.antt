-- The last lines of a term as bytes. Assumes nothing.
use Rattle.std.specs.Prelude.{ℕ, zero, suc, ◌+◌, ◌-◌, ◌≤◌, ◌<◌, ◌≡◌, refl, Bool, true, false, cond, eqb, ltb, drop}
use Rattle.std.specs.List.{filter, fold, range_with_len}
use Rattle.std.proofs.Common.{sym, ◌∙◌, arith, le-ltb, ne_eqb}
use Rattle.std.proofs.Math.Path.{ap}
use mathlib.Core.List.{List, [], ◌∷◌, ◌++◌, append_assoc, append-nil}
use Rattle.text.specs.Codes.{codes}
use Rattle.text.specs.Sink.{spaces}
use Rattle.literal.specs.Quote.{quoted}
use Rattle.plan.specs.Plan.{Environment, Term}
use Rattle.plan.specs.Row.{Row, step, arm}
use Rattle.plan.specs.Refusal.{is_return}
use Rattle.codegen.specs.Piece.{fix, quoted_sym, quoted_pos, unbrace, indent, sym_text, pos_text, bytes, odd_pieces, odd_piece}
use Rattle.codegen.specs.ReturnKind.{ReturnKind, Iterator, Option, Plain, by_return_kind}
use Rattle.codegen.specs.Sema.{constructor_sig}
use Rattle.codegen.specs.Block.{text_of, odds_of}
use Rattle.codegen.specs.Terms.{rowless, ends_in_return, last_expr, term_end}
use Rattle.rows.specs.View.{nth, wide_at, step_made, arm_made, patterns_in, block_of}
use Rattle.layout.specs.View.{cut}
use Rattle.view.specs.BlockRows.{level_is}
use Rattle.row_frames.specs.Rows.{rows_from, rows_next, rows_none}
use Rattle.splitting.specs.Lines.{text_append}
use Rattle.splitting.specs.Simulation.{odds_append}
use Rattle.constructors.specs.Lines.{lines_text, lines_cons, lines_nil, render_cons, render_nil, lines_odds, rowless_odds}

-- the last line, where the block may end without a return
unfoldable pub last_text : Environment → ReturnKind → ℕ → ℕ → List ℕ
last_text env k name pos =
    by_return_kind k [] (codes "    None" ++ (10 ∷ []))
    (codes "    unreachable!(\"no rule matched for term {} at {}; should it be partial?\", " ++ (quoted (sym_text env name) ++ (codes ", " ++ (quoted (pos_text env pos) ++ (codes ")" ++ (10 ∷ []))))))

unfoldable pub end_text : Environment → Bool → ReturnKind → ℕ → ℕ → List ℕ
end_text env returns k name pos = cond returns [] (last_text env k name pos) ++ (125 ∷ 10 ∷ [])

last_is : (env : Environment) (m : Term) (k : ReturnKind) → lines_text env 1 (by_return_kind k [] ((fix "None" refl ∷ []) ∷ [])
    ((fix "unreachable!(\"no rule matched for term {} at {}; should it be partial?\", " refl ∷ quoted_sym m.name ∷ fix ", " refl ∷ quoted_pos m.pos ∷ fix ")" refl ∷ []) ∷ [])) ≡ last_text env k m.name m.pos
unfolding last_text by_return_kind bytes indent spaces
last_is env m Iterator = lines_nil env 1
last_is env m Option = simp (lines_cons, lines_nil, render_cons, render_nil)
last_is env m Plain = simp (lines_cons, lines_nil, render_cons, render_nil, append_assoc, append-nil)

brace_is : (env : Environment) → lines_text env 0 ((unbrace ∷ []) ∷ []) ≡ 125 ∷ 10 ∷ []
unfolding bytes indent spaces
brace_is env = simp (lines_cons, lines_nil, render_cons, render_nil)

pub end_is : (env : Environment) (m : Term) (rs : List Row) → text_of env (term_end m rs) ≡ end_text env (ends_in_return false rs) (constructor_sig m).ret_kind m.name m.pos
unfolding term_end last_expr end_text lines_text
end_is env m rs = text_append env (rowless 1 (cond (ends_in_return false rs) [] (last_expr m))) (rowless 0 ((unbrace ∷ []) ∷ []))
    ∙ ap (λ (s : List ℕ). lines_text env 1 (cond (ends_in_return false rs) [] (last_expr m)) ++ s) (brace_is env) ∙ ap (λ (s : List ℕ). s ++ (125 ∷ 10 ∷ [])) (by_test (ends_in_return false rs) (last_is env m (constructor_sig m).ret_kind))
  where
    by_test : (b : Bool) → lines_text env 1 (last_expr m) ≡ last_text env (constructor_sig m).ret_kind m.name m.pos → lines_text env 1 (cond b [] (last_expr m)) ≡ cond b [] (last_text env (constructor_sig m).ret_kind m.name m.pos)
    by_test true h = lines_nil env 1
    by_test false h = h

last_odds : (m : Term) (k : ReturnKind) → lines_odds (by_return_kind k [] ((fix "None" refl ∷ []) ∷ [])
    ((fix "unreachable!(\"no rule matched for term {} at {}; should it be partial?\", " refl ∷ quoted_sym m.name ∷ fix ", " refl ∷ quoted_pos m.pos ∷ fix ")" refl ∷ []) ∷ [])) ≡ 0
unfolding by_return_kind odd_pieces odd_piece
last_odds m Iterator = refl
last_odds m Option = refl
last_odds m Plain = refl

end_lines_odds : (m : Term) (b : Bool) → lines_odds (cond b [] (last_expr m)) ≡ 0
unfolding last_expr
end_lines_odds m true = refl
end_lines_odds m false = last_odds m (constructor_sig m).ret_kind

brace_odds : lines_odds ((unbrace ∷ []) ∷ []) ≡ 0
unfolding odd_pieces odd_piece
brace_odds = refl

pub end_odds : (m : Term) (rs : List Row) → odds_of (term_end m rs) ≡ 0
unfolding term_end
end_odds m rs = odds_append (rowless 1 (cond (ends_in_return false rs) [] (last_expr m))) (rowless 0 ((unbrace ∷ []) ∷ [])) ∙ rw (rowless_odds 1, rowless_odds 0, end_lines_odds m (ends_in_return false rs), brace_odds)

-- ROWS

abbrev by_kind : (ws : List ℕ) (k : ℕ) → Row
by_kind ws k = cond (ltb k 4) (step (nth ws 0) (step_made k (nth ws 2) (wide_at ws 3)) (drop 7 ws)) (arm (nth ws 0) (arm_made (k - 4) (nth ws 2) (wide_at ws 3)) (patterns_in (drop 7 ws)))

return_is : (ws : List ℕ) → is_return (block_of ws) ≡ eqb (nth ws 1) 3
unfolding block_of step_made
return_is ws = by (nth ws 1)
  where
    by : (k : ℕ) → is_return (by_kind ws k) ≡ eqb k 3
    by zero = refl
    by (suc zero) = refl
    by (suc (suc zero)) = refl
    by (suc (suc (suc zero))) = refl
    by (suc (suc (suc (suc k)))) = rw (le-ltb (suc (suc (suc (suc k)))) 4 (omega arith), ne_eqb (suc (suc (suc (suc k)))) 3 (λ q. absurd (omega arith)))

module _ (words rows : List ℕ) (r last : ℕ) (b : Bool) where
  pub returns_next : r < last → ends_in_return b (rows_from words rows last r) ≡ ends_in_return (cond (eqb (nth (cut words rows r) 0) 0) (eqb (nth (cut words rows r) 1) 3) b) (rows_from words rows last (r + 1))
  unfolding ends_in_return
  returns_next h = ap (λ (x : List Row). ends_in_return b x) (rows_next words rows r last h)
      ∙ ap (λ (n : ℕ). ends_in_return (cond (eqb n 0) (is_return (block_of (cut words rows r))) b) (rows_from words rows last (r + 1))) (level_is (cut words rows r))
      ∙ ap (λ (t : Bool). ends_in_return (cond (eqb (nth (cut words rows r) 0) 0) t b) (rows_from words rows last (r + 1))) (return_is (cut words rows r))

  pub returns_end : last ≤ r → ends_in_return b (rows_from words rows last r) ≡ b
  unfolding ends_in_return
  returns_end h = rw (rows_none words rows r last h)

-- the same as a fold over the rows of level 0
pub returns_fold : (words rows : List ℕ) (last r n : ℕ) (b : Bool) → last - r ≡ n
    → fold (λ _ x. eqb (nth (cut words rows x) 1) 3) b (filter (λ x. eqb (nth (cut words rows x) 0) 0) (range_with_len r n)) ≡ ends_in_return b (rows_from words rows last r)
returns_fold words rows last r zero b h = sym (returns_end words rows r last b (omega (arith, h)))
returns_fold words rows last r (suc n) b h =
    by_test (eqb (nth (cut words rows r) 0) 0) (filter (λ x. eqb (nth (cut words rows x) 0) 0) (range_with_len (r + 1) n))
    ∙ returns_fold words rows last (r + 1) n (cond (eqb (nth (cut words rows r) 0) 0) (eqb (nth (cut words rows r) 1) 3) b) (omega (arith, h))
    ∙ sym (returns_next words rows r last b (omega (arith, h)))
  where
    by_test : (t : Bool) (rs : List ℕ) → fold (λ _ x. eqb (nth (cut words rows x) 1) 3) b (cond t (r ∷ rs) rs) ≡ fold (λ _ x. eqb (nth (cut words rows x) 1) 3) (cond t (eqb (nth (cut words rows r) 1) 3) b) rs
    by_test true rs = refl
    by_test false rs = refl
