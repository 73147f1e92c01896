-- The tokens of a plan are its text, in order, and the odd ones among them are those that `odds` counts.
use Rattle.std.specs.Prelude.{ℕ, suc, ◌+◌, ◌≡◌, refl, Bool, true, false, cond, List, [], ◌∷◌, ◌++◌, ◌⊎◌}
use Rattle.std.proofs.Common.{sym as back, ◌∙◌, append_assoc, append-nil, inl, inr, arith}
use mathlib.Core.List.Memᴰ
use Rattle.literal.specs.Literal.{odd}
use Rattle.plan.specs.Plan.{Environment, Plan}
use Rattle.codegen.specs.Piece.{Piece, fix, file, sym, pos, type, quoted_sym, quoted_pos, num, var, new, lit, brace, unbrace, break, bytes, render, odd_piece, odd_pieces}
use Rattle.codegen.specs.Block.{words, overflow, What, line, edge, Part, line_bytes, what_bytes, part_bytes, text_of, odd_what, odds_of}
use Rattle.codegen.specs.Terms.{parts, terms_text, odds}
use Rattle.codegen.specs.Items.{items}
use Rattle.codegen.specs.Answer.{whole_text}
use Rattle.read_back.specs.Tokens.{Token, token_bytes, joined, token, piece_tokens, what_tokens, part_tokens, terms_tokens, whole_tokens, is_odd, odd_count, ◌∈◌}

-- EVERY TOKEN

unfoldable pub Each : (Token → Type 0) → List Token → Type 0
Each P [] = Unit
Each P (t ∷ ts) = P t × Each P ts

pub each_append : (P : Token → Type 0) (ts us : List Token) → Each P ts → Each P us → Each P (ts ++ us)
unfolding Each
each_append P [] us h g = g
each_append P (t ∷ ts) us h g = (h.0, each_append P ts us h.1 g)

pub each_in : (P : Token → Type 0) (ts : List Token) → Each P ts → (t : Token) → t ∈ ts → P t
unfolding Each
each_in P [] h t m = absurd (Memᴰ.not-nil m)
each_in P (u ∷ ts) h t m = go (each_in P ts h.1 t) (Memᴰ.cases_cons m)
  where
    go : (t ∈ ts → P t) → (t ≡ u) ⊎ (t ∈ ts) → P t
    go f (inl e) = rw e h.0
    go f (inr n) = f n

pub each_map : (P Q : Token → Type 0) → ((t : Token) → P t → Q t) → (ts : List Token) → Each P ts → Each Q ts
unfolding Each
each_map P Q f [] h = tt
each_map P Q f (t ∷ ts) h = (f t h.0, each_map P Q f ts h.1)

-- TEXT

joined_append : (ts us : List Token) → joined (ts ++ us) ≡ joined ts ++ joined us
unfolding joined
joined_append [] us = refl
joined_append (t ∷ ts) us = rw (joined_append ts us, append_assoc)

pub token_is : (e : Environment) (d : ℕ) (p : Piece) → token_bytes (token e d p) ≡ bytes e d p
unfolding token token_bytes bytes
token_is e d (fix t h) = refl
token_is e d (file n) = refl
token_is e d (sym n) = refl
token_is e d (pos n) = refl
token_is e d (type n) = refl
token_is e d (quoted_sym n) = refl
token_is e d (quoted_pos n) = refl
token_is e d (num n) = refl
token_is e d (var n) = refl
token_is e d (new n) = refl
token_is e d (lit t v) = refl
token_is e d brace = refl
token_is e d unbrace = refl
token_is e d (break k) = refl

pub joined_pieces : (e : Environment) (d : ℕ) (ps : List Piece) → joined (piece_tokens e d ps) ≡ render e d ps
unfolding joined piece_tokens render
joined_pieces e d [] = refl
joined_pieces e d (p ∷ ps) = rw (token_is e d p, joined_pieces e d ps)

joined_what : (e : Environment) (d k : ℕ) (w : What) → joined (what_tokens e d k w) ≡ what_bytes e d k w
unfolding joined what_tokens what_bytes line_bytes token_bytes
joined_what e d k (line (words ps)) = joined_pieces e d ps
joined_what e d k (line overflow) = simp append_assoc
joined_what e d k (edge g) = append-nil _

joined_parts : (e : Environment) (ps : List Part) → joined (part_tokens e ps) ≡ text_of e ps
unfolding joined part_tokens text_of part_bytes token_bytes
joined_parts e [] = refl
joined_parts e (p ∷ ps) = rw (joined_append, joined_what, joined_parts e ps) (simp append_assoc)

pub terms_joined : (p : Plan) → terms_text p ≡ joined (terms_tokens p)
unfolding terms_text terms_tokens
terms_joined p = back (joined_parts p.env (parts p))

pub whole_joined : (p : Plan) → whole_text p ≡ joined (whole_tokens p)
unfolding whole_text whole_tokens
whole_joined p = rw (joined_append, joined_pieces, terms_joined)

-- COUNT

count_append : (ts us : List Token) → odd_count (ts ++ us) ≡ odd_count ts + odd_count us
unfolding odd_count
count_append [] us = omega arith
count_append (t ∷ ts) us = go (is_odd t) (count_append ts us)
  where
    go : (b : Bool) → odd_count (ts ++ us) ≡ odd_count ts + odd_count us → cond b (suc (odd_count (ts ++ us))) (odd_count (ts ++ us)) ≡ cond b (suc (odd_count ts)) (odd_count ts) + odd_count us
    go true h = omega arith
    go false h = omega arith

one_more : (b : Bool) (n : ℕ) → cond b (suc n) n ≡ cond b 1 0 + n
one_more true n = omega arith
one_more false n = omega arith

count_token : (e : Environment) (d n : ℕ) (p : Piece) → cond (is_odd (token e d p)) (suc n) n ≡ odd_piece p + n
unfolding token odd_piece
count_token e d n (fix t h) = omega arith
count_token e d n (file m) = omega arith
count_token e d n (sym m) = omega arith
count_token e d n (pos m) = omega arith
count_token e d n (type m) = omega arith
count_token e d n (quoted_sym m) = omega arith
count_token e d n (quoted_pos m) = omega arith
count_token e d n (num m) = omega arith
count_token e d n (var m) = omega arith
count_token e d n (new m) = omega arith
count_token e d n (lit t v) = one_more (odd t v) n
count_token e d n brace = omega arith
count_token e d n unbrace = omega arith
count_token e d n (break k) = omega arith

count_pieces : (e : Environment) (d : ℕ) (ps : List Piece) → odd_count (piece_tokens e d ps) ≡ odd_pieces ps
unfolding odd_count piece_tokens odd_pieces
count_pieces e d [] = refl
count_pieces e d (p ∷ ps) = rw (count_pieces e d ps) (count_token e d (odd_pieces ps) p)

count_what : (e : Environment) (d k : ℕ) (w : What) → odd_count (what_tokens e d k w) ≡ odd_what w
unfolding odd_count what_tokens
count_what e d k (line (words ps)) = count_pieces e d ps
count_what e d k (line overflow) = refl
count_what e d k (edge g) = refl

count_parts : (e : Environment) (ps : List Part) → odd_count (part_tokens e ps) ≡ odds_of ps
unfolding odd_count part_tokens odds_of
count_parts e [] = refl
count_parts e (p ∷ ps) = rw (count_append, count_what, ← count_parts e ps) refl

pub terms_counted : (p : Plan) → odds p ≡ odd_count (terms_tokens p)
unfolding odds terms_tokens
terms_counted p = back (count_parts p.env (parts p))

-- what stands before the terms has no odd literal, as it has none
pub whole_counted : (p : Plan) → odd_count (piece_tokens p.env 0 (items p)) ≡ 0 → odds p ≡ odd_count (whole_tokens p)
unfolding whole_tokens
whole_counted p h = rw (count_append, h) (terms_counted p ∙ omega arith)
