-- Pieces one by one, put into a `Sink` of the code: what puts the bytes of each. Assumes nothing.
use Rattle.std.specs.Prelude.{◌≡◌, true, List, [], ◌∷◌, ◌++◌, ℕ, ◌+◌, get_or, take, drop}
use mathlib.Core.Path as Path
use lib.ListN.{take-append-drop}
use Rattle.std.proofs.Math.Option.{Option}
use Prim.Native.String.{String}
use Rattle.text.specs.Codes.{codes}
use Rattle.text.specs.Digits.{decimal}
use Rattle.text.specs.Writes.{Writes, writes_nil, writes_then}
use Rattle.text.specs.declared.sink.Sink.{Sink}
use Rattle.literal.specs.declared.builtin_type.IntType.{IntType}
use Rattle.literal.specs.Literal.{literal}
use Rattle.literal.specs.Quote.{quoted}
use Rattle.plan.specs.Plan.{Environment}
use Rattle.plan.specs.Lookup.{type_at}
use Rattle.codegen.specs.Piece.{Piece, plain, fix, file, sym, pos, type, quoted_sym, quoted_pos, num, var, new, lit, brace, unbrace, break, indent, sym_text, pos_text, type_text, bytes, render}
use Rattle.emits.specs.Emits.{render_append}

-- the bytes of pieces
pub record Shows (env : Environment) (d : ℕ) (ps : List Piece) (w w' : Sink) : Type 0 where
  pub is : Writes (render env d ps) w w'

pub shows_none : {env : Environment} {d : ℕ} {w : Sink} → Shows env d [] w w
unfolding render
shows_none = record { is = writes_nil }

module _ {env : Environment} {d : ℕ} {ps : List Piece} {w w₁ w' : Sink} where
  -- a piece, then those after it
  pub shows_piece : {p : Piece} → Writes (bytes env d p) w w₁ → Shows env d ps w₁ w' → Shows env d (p ∷ ps) w w'
  unfolding render
  shows_piece a b = record { is = writes_then a b.is }

  pub shows_fix : {t : String} {h : plain (codes t) ≡ true} → Writes (codes t) w w₁ → Shows env d ps w₁ w' → Shows env d (fix t h ∷ ps) w w'
  unfolding bytes
  shows_fix a b = shows_piece a b

  pub shows_file : {n : ℕ} → Writes (get_or env.files n []) w w₁ → Shows env d ps w₁ w' → Shows env d (file n ∷ ps) w w'
  unfolding bytes
  shows_file a b = shows_piece a b

  pub shows_sym : {n : ℕ} → Writes (sym_text env n) w w₁ → Shows env d ps w₁ w' → Shows env d (sym n ∷ ps) w w'
  unfolding bytes
  shows_sym a b = shows_piece a b

  pub shows_pos : {n : ℕ} → Writes (pos_text env n) w w₁ → Shows env d ps w₁ w' → Shows env d (pos n ∷ ps) w w'
  unfolding bytes
  shows_pos a b = shows_piece a b

  pub shows_type : {n : ℕ} → Writes (type_text env (type_at env n)) w w₁ → Shows env d ps w₁ w' → Shows env d (type n ∷ ps) w w'
  unfolding bytes
  shows_type a b = shows_piece a b

  pub shows_quoted_sym : {n : ℕ} → Writes (quoted (sym_text env n)) w w₁ → Shows env d ps w₁ w' → Shows env d (quoted_sym n ∷ ps) w w'
  unfolding bytes
  shows_quoted_sym a b = shows_piece a b

  pub shows_quoted_pos : {n : ℕ} → Writes (quoted (pos_text env n)) w w₁ → Shows env d ps w₁ w' → Shows env d (quoted_pos n ∷ ps) w w'
  unfolding bytes
  shows_quoted_pos a b = shows_piece a b

  pub shows_num : {n : ℕ} → Writes (decimal n) w w₁ → Shows env d ps w₁ w' → Shows env d (num n ∷ ps) w w'
  unfolding bytes
  shows_num a b = shows_piece a b

  pub shows_lit : {t : Option IntType} {v : ℕ} → Writes (literal t v) w w₁ → Shows env d ps w₁ w' → Shows env d (lit t v ∷ ps) w w'
  unfolding bytes
  shows_lit a b = shows_piece a b

  pub shows_brace : Writes (codes " {") w w₁ → Shows env d ps w₁ w' → Shows env d (brace ∷ ps) w w'
  unfolding bytes
  shows_brace a b = shows_piece a b

  pub shows_unbrace : Writes (codes "}") w w₁ → Shows env d ps w₁ w' → Shows env d (unbrace ∷ ps) w w'
  unfolding bytes
  shows_unbrace a b = shows_piece a b

-- two puts to a piece
module _ {env : Environment} {d : ℕ} {ps : List Piece} {w w₁ w₂ w' : Sink} where
  pub shows_var : {n : ℕ} → Writes (codes "v") w w₁ → Writes (decimal n) w₁ w₂ → Shows env d ps w₂ w' → Shows env d (var n ∷ ps) w w'
  unfolding bytes
  shows_var a b c = shows_piece (writes_then a b) c

  pub shows_new : {n : ℕ} → Writes (codes "v") w w₁ → Writes (decimal n) w₁ w₂ → Shows env d ps w₂ w' → Shows env d (new n ∷ ps) w w'
  unfolding bytes
  shows_new a b c = shows_piece (writes_then a b) c

  pub shows_break : {k : ℕ} → Writes (10 ∷ []) w w₁ → Writes (indent (d + k)) w₁ w₂ → Shows env d ps w₂ w' → Shows env d (break k ∷ ps) w w'
  unfolding bytes
  shows_break a b c = shows_piece (writes_then a b) c

-- MORE PIECES, one list after the other

pub shows_append : {env : Environment} {d : ℕ} {ps qs : List Piece} {w w₁ w₂ : Sink} → Shows env d ps w w₁ → Shows env d qs w₁ w₂ → Shows env d (ps ++ qs) w w₂
shows_append {env} {d} {ps} {qs} p q = record { is = rw (render_append env d ps qs) (writes_then p.is q.is) }

infixr 5 ◌⟫ₛ◌
pub ◌⟫ₛ◌ : {env : Environment} {d : ℕ} {ps qs : List Piece} {w w₁ w₂ : Sink} → Shows env d ps w w₁ → Shows env d qs w₁ w₂ → Shows env d (ps ++ qs) w w₂
p ⟫ₛ q = shows_append p q

-- pieces whose bytes are put at once
pub shows_text : {env : Environment} {d : ℕ} {ps : List Piece} {w w' : Sink} → Writes (render env d ps) w w' → Shows env d ps w w'
shows_text p = record { is = p }

pub shows_as : {env : Environment} {d : ℕ} {ps qs : List Piece} {w w' : Sink} → ps ≡ qs → Shows env d qs w w' → Shows env d ps w w'
shows_as q p = rw q p

-- the first n pieces, put at once
pub shows_first : {env : Environment} {d : ℕ} {ps : List Piece} {w w₁ w₂ : Sink} (n : ℕ) → Writes (render env d (take n ps)) w w₁ → Shows env d (drop n ps) w₁ w₂ → Shows env d ps w w₂
shows_first {env} {d} {ps} n p q = shows_as (Path.sym (take-append-drop n ps)) (shows_append (shows_text {ps = take n ps} p) q)

-- A LOOP that writes from the front: what is left to write, ps at the present place, ends where ps₀ from the start does.
pub record Left (env : Environment) (d : ℕ) (ps₀ : List Piece) (w₀ : Sink) (ps : List Piece) (w : Sink) : Type 0 where
  pub ends : (w' : Sink) → Shows env d ps w w' → Shows env d ps₀ w₀ w'

pub left_all : {env : Environment} {d : ℕ} {ps₀ ps : List Piece} {w : Sink} → ps₀ ≡ ps → Left env d ps₀ w ps w
left_all q = record { ends = λ w' p. shows_as q p }

module _ {env : Environment} {d : ℕ} {ps₀ : List Piece} {w₀ : Sink} {ps : List Piece} {w : Sink} (g : Left env d ps₀ w₀ ps w) where
  pub left_more : {p qs : List Piece} {w₁ : Sink} → ps ≡ p ++ qs → Shows env d p w w₁ → Left env d ps₀ w₀ qs w₁
  left_more q s = record { ends = λ w' r. g.ends w' (shows_as q (shows_append s r)) }

  pub left_last : {qs : List Piece} {w' : Sink} → ps ≡ qs → Shows env d qs w w' → Shows env d ps₀ w₀ w'
  left_last {w' = w'} q s = g.ends w' (shows_as q s)

  pub left_end : ps ≡ [] → Shows env d ps₀ w₀ w
  left_end q = g.ends w (shows_as q shows_none)
