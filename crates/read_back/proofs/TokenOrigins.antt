-- From pieces to tokens: what origin/specs shows of the pieces of a plan's text, said of its tokens.
use Prim.Native.Nat.{ℕ, zero, suc, ◌+◌, ◌*◌}
use Rattle.std.specs.Prelude.{◌≡◌, Bool, true, not, ◌⊎◌, eqb}
use Rattle.std.proofs.Math.Path.{refl, sym as back, ap}
use Rattle.std.proofs.Common.{◌∙◌, inl, inr}
use Rattle.std.proofs.Math.Option.{Option, some}
use mathlib.Core.List.Memᴰ
use mathlib.Core.List.{List, [], ◌∷◌, ◌++◌, append_assoc, Memᴰ}
use Rattle.text.specs.Codes.{codes}
use Rattle.text.specs.Digits.{decimal}
use Rattle.text.specs.Sink.{spaces}
use Rattle.plan.specs.Plan.{Environment, Generated, Plan}
use Rattle.plan.specs.Lookup.{type_at}
use Rattle.plan.specs.Layout.{digit}
use Rattle.codegen.specs.Piece.{Piece, fix, file, sym, pos, type, quoted_sym, quoted_pos, num, var, new, lit, brace, unbrace, break, indent, sym_text, bytes}
use Rattle.codegen.specs.Block.{overflow, What, Edge, opens, gives_false, ends, calls, Part, iter_overflow_action, line_bytes, edge_bytes}
use Rattle.codegen.specs.Items.{items}
use Rattle.codegen.specs.Terms.{all_parts}
use Rattle.splitting.specs.Cases.{and_left, and_right, and_both, false_true, none_some}
use Rattle.splitting.specs.Demand3.{BlockTable}
use Rattle.splitting.proofs.Theorems.{all_parts_append, one_more}
use Rattle.origin.specs.Origin.{Origin, of_binding, of_arm, of_name, of_return, of_declared, term_of, int_at, literal_type, flat, bare, quiet, silent, silents, Spelled, done, quietly, number, field_number, literal, Words, unquoted, log_line, last_line, Written, in_words, at_overflow, at_closure, Parts, no_parts, one_part}
use Rattle.origin.proofs.ItemOrigins.{bare_unmarked, quiet_silent, items_fine}
use Rattle.read_back.specs.Tokens.{Token, string, integer, other, token, piece_tokens, what_tokens, part_tokens, ◌∈◌}
use Rattle.read_back.proofs.TokenLaws.{Each, each_append, each_in, each_map}
use Rattle.read_back.specs.Origins.{origin_tokens, int_tokens, return_tokens, not_other, LiteralOf, QuotedText, logged_name, logged_position, last_name, last_position, file_text, name_text, position_text, type_name, OtherBytes, bare_bytes, numbered, log_head, last_head, own_text, HeadBytes, unmarked_bytes, head_number, head_text, TokensOrigin, tables_tokens, table_tokens}

-- BYTES

bare_append : (s t : List ℕ) → bare s ≡ true → bare t ≡ true → bare (s ++ t) ≡ true
bare_append [] t h k = k
bare_append (c ∷ s) t h k = and_both (and_left (not (eqb c 34)) _ h) (and_both (and_left (not (digit c)) _ (and_right (not (eqb c 34)) _ h)) (bare_append s t (and_right (not (digit c)) _ (and_right (not (eqb c 34)) _ h)) k))

bare_spaces : (n : ℕ) → bare (spaces n) ≡ true
unfolding spaces
bare_spaces zero = refl
bare_spaces (suc n) = bare_spaces n

bare_indent : (d : ℕ) → bare (indent d) ≡ true
unfolding indent
bare_indent d = bare_spaces (4 * d)

bare_action : (k : ℕ) → bare (iter_overflow_action k) ≡ true
bare_action zero = refl
bare_action (suc k) = refl

module _ (e : Environment) where
  overflow_bytes : (d k : ℕ) → OtherBytes e (line_bytes e d k overflow)
  unfolding line_bytes
  overflow_bytes d k = bare_bytes _ (bare_append (codes "if returns.len() >= MAX_ISLE_RETURNS { ") (iter_overflow_action k ++ codes " }") refl (bare_append (iter_overflow_action k) (codes " }") (bare_action k) refl))

  closure_bytes : (k : ℕ) (x : Edge) → OtherBytes e (edge_bytes k x)
  unfolding edge_bytes
  closure_bytes k opens = bare_bytes _ refl
  closure_bytes k gives_false = bare_bytes _ refl
  closure_bytes k ends = bare_bytes _ refl
  closure_bytes k (calls n) =
      let act : List ℕ = iter_overflow_action k in
      let end : List ℕ = codes " } // __isle_arm_" in
      let h : OtherBytes e ((codes ")() { " ++ (act ++ end)) ++ decimal n) = numbered (codes ")() { " ++ (act ++ end)) n (bare_append (codes ")() { ") (act ++ end) refl (bare_append act end (bare_action k) refl)) in
      rw (append_assoc (codes ")() { ") (act ++ end) (decimal n), append_assoc act end (decimal n)) at h

  quiet_bytes : (d : ℕ) (p : Piece) → quiet p ≡ true → OtherBytes e (bytes e d p)
  unfolding bytes
  quiet_bytes d (fix t k) h = bare_bytes (codes t) h
  quiet_bytes d (file n) h = own_text (file_text n)
  quiet_bytes d (sym n) h = own_text (name_text n)
  quiet_bytes d (pos n) h = own_text (position_text n)
  quiet_bytes d (type n) h = own_text (type_name n)
  quiet_bytes d (quoted_sym n) h = false_true h
  quiet_bytes d (quoted_pos n) h = false_true h
  quiet_bytes d (num n) h = false_true h
  quiet_bytes d (var n) h = numbered (codes "v") n refl
  quiet_bytes d (new n) h = numbered (codes "v") n refl
  quiet_bytes d (lit t v) h = false_true h
  quiet_bytes d brace h = bare_bytes _ refl
  quiet_bytes d unbrace h = bare_bytes _ refl
  quiet_bytes d (break k) h = bare_bytes _ (bare_indent (d + k))

  silent_bytes : (d : ℕ) (p : Piece) → silent p ≡ true → HeadBytes e (bytes e d p)
  unfolding bytes
  silent_bytes d (fix t k) h = unmarked_bytes (codes t) h
  silent_bytes d (file n) h = head_text (file_text n)
  silent_bytes d (sym n) h = head_text (name_text n)
  silent_bytes d (pos n) h = head_text (position_text n)
  silent_bytes d (type n) h = head_text (type_name n)
  silent_bytes d (quoted_sym n) h = false_true h
  silent_bytes d (quoted_pos n) h = false_true h
  silent_bytes d (num n) h = head_number [] n refl
  silent_bytes d (var n) h = head_number (codes "v") n refl
  silent_bytes d (new n) h = head_number (codes "v") n refl
  silent_bytes d (lit t v) h = false_true h
  silent_bytes d brace h = unmarked_bytes _ refl
  silent_bytes d unbrace h = unmarked_bytes _ refl
  silent_bytes d (break k) h = unmarked_bytes _ (bare_unmarked (indent (d + k)) (bare_indent (d + k)))

  -- a silent piece is no literal and no quoted text
  silent_token : (d : ℕ) (p : Piece) → silent p ≡ true → token e d p ≡ other (bytes e d p)
  unfolding token
  silent_token d (fix t k) h = refl
  silent_token d (file n) h = refl
  silent_token d (sym n) h = refl
  silent_token d (pos n) h = refl
  silent_token d (type n) h = refl
  silent_token d (quoted_sym n) h = false_true h
  silent_token d (quoted_pos n) h = false_true h
  silent_token d (num n) h = refl
  silent_token d (var n) h = refl
  silent_token d (new n) h = refl
  silent_token d (lit t v) h = false_true h
  silent_token d brace h = refl
  silent_token d unbrace h = refl
  silent_token d (break k) h = refl

  quiet_token : (d : ℕ) (p : Piece) → quiet p ≡ true → token e d p ≡ other (bytes e d p)
  quiet_token d p h = silent_token d p (quiet_silent p h)

-- WHAT STANDS BEFORE THE TERMS

abbrev pub IsOther : Environment → Token → Type 0
IsOther e (string s) = ⊥
IsOther e (integer t v) = ⊥
IsOther e (other s) = HeadBytes e s

all_other : (e : Environment) (d : ℕ) (ps : List Piece) → silents ps ≡ true → Each (IsOther e) (piece_tokens e d ps)
unfolding piece_tokens Each
all_other e d [] h = tt
all_other e d (p ∷ ps) h = (rw (silent_token e d p (and_left (silent p) _ h)) (silent_bytes e d p (and_left (silent p) _ h)), all_other e d ps (and_right (silent p) _ h))

pub items_other : (p : Plan) → Each (IsOther p.env) (piece_tokens p.env 0 (items p))
items_other p = all_other p.env 0 (items p) (items_fine p)

-- EACH TOKEN OF A PART

module _ (e : Environment) (g : Generated) where
  -- of a token of row i
  abbrev pub TokenOf : Option ℕ → Token → Type 0
  TokenOf i (string s) = QuotedText e g i s
  TokenOf i (integer t v) = LiteralOf e g t v
  TokenOf i (other s) = OtherBytes e s

  spelled_each : (i : Option ℕ) (d : ℕ) {a : Bool} {ps : List Piece} {os : List Origin} → Spelled e g a ps os → Each (TokenOf i) (piece_tokens e d ps)
  unfolding piece_tokens Each token bytes
  spelled_each i d done = tt
  spelled_each i d (quietly p h hs) = (rw (quiet_token e d p h) (quiet_bytes e d p h), spelled_each i d hs)
  spelled_each i d (number n hs) = (numbered [] n refl, spelled_each i d hs)
  spelled_each i d (field_number k n hs) = (bare_bytes _ (bare_indent (d + k)), (numbered [] n refl, (bare_bytes _ refl, spelled_each i d hs)))
  spelled_each i d (literal x n v h t hs) = (record { origin = x; n = n; is = h; type_is = t }, spelled_each i d hs)

  words_each : {i : Option ℕ} (d : ℕ) {ps : List Piece} {os : List Origin} → Words e g i ps os → Each (TokenOf i) (piece_tokens e d ps)
  unfolding piece_tokens Each token bytes
  words_each {i} d (unquoted h) = spelled_each i d h
  words_each d (log_line i l r q bs h) = (log_head, (logged_name i l r q bs h, (bare_bytes _ refl, (logged_position i l r q bs h, (bare_bytes _ refl, tt)))))
  words_each d last_line = (last_head, (last_name, (bare_bytes _ refl, (last_position, (bare_bytes _ refl, tt)))))

  written_each : {i : Option ℕ} (d k : ℕ) {w : What} {os : List Origin} → Written e g i w os → Each (TokenOf i) (what_tokens e d k w)
  unfolding what_tokens Each
  written_each d k (in_words h) = words_each d h
  written_each d k at_overflow = (overflow_bytes e d k, tt)
  written_each d k (at_closure x) = (closure_bytes e k x, tt)

  part_each : (q : Part) {os : List Origin} → Written e g q.row q.what os → Each (TokenOf q.row) (part_tokens e (q ∷ []))
  unfolding part_tokens Each
  part_each q h =
      let d : ℕ = q.around + q.base in
      (bare_bytes _ (bare_indent d), each_append (TokenOf q.row) (what_tokens e d q.around q.what) _ (written_each d q.around h) (bare_bytes _ refl, tt))

  tokens_origin : (q : Part) {os : List Origin} → Written e g q.row q.what os → TokensOrigin e g q
  tokens_origin q h =
      let f : (t : Token) → t ∈ part_tokens e (q ∷ []) → TokenOf q.row t = each_in (TokenOf q.row) (part_tokens e (q ∷ [])) (part_each q h) in
      record { integers = λ m. f _ m; strings = λ m. f _ m; others = λ m. f _ m }

  pub parts_origin : {qs : List Part} {os : List Origin} → Parts e g qs os → (q : Part) → Memᴰ q qs → TokensOrigin e g q
  parts_origin no_parts q m = absurd (Memᴰ.not-nil m)
  parts_origin (one_part {qs = qs} p h hs) q m = go (λ n. parts_origin hs q n) (Memᴰ.cases_cons m)
    where
      go : (Memᴰ q qs → TokensOrigin e g q) → (q ≡ p) ⊎ Memᴰ q qs → TokensOrigin e g q
      go f (inl z) = rw z (tokens_origin p h)
      go f (inr n) = f n

-- the tokens of parts are those of each part, in order
pub tokens_append : (e : Environment) (ps qs : List Part) → part_tokens e (ps ++ qs) ≡ part_tokens e ps ++ part_tokens e qs
unfolding part_tokens
tokens_append e [] qs = refl
tokens_append e (p ∷ ps) qs = rw (tokens_append e ps qs) (simp append_assoc)

no_tokens : (e : Environment) (P : Token → Type 0) → Each P (part_tokens e [])
unfolding Each part_tokens
no_tokens e P = tt

-- whatever holds of each token of a row holds of all tokens of the parts
pub parts_each : (e : Environment) (g : Generated) (P : Token → Type 0) → ((i : Option ℕ) (t : Token) → TokenOf e g i t → P t) → {ps : List Part} {os : List Origin} → Parts e g ps os → Each P (part_tokens e ps)
parts_each e g P f no_parts = no_tokens e P
parts_each e g P f (one_part {qs = qs} q h hs) =
    rw (tokens_append e (q ∷ []) qs) (each_append P (part_tokens e (q ∷ [])) _ (each_map (TokenOf e g q.row) P (f q.row) (part_tokens e (q ∷ [])) (part_each e g q h)) (parts_each e g P f hs))

-- IN ORDER

flat_append : {A B : Type 0} (f : A → List B) (xs ys : List A) → flat f (xs ++ ys) ≡ flat f xs ++ flat f ys
unfolding flat
flat_append f [] ys = refl
flat_append f (x ∷ xs) ys = rw (flat_append f xs ys, append_assoc)

not_other_append : (ts us : List Token) → not_other (ts ++ us) ≡ not_other ts ++ not_other us
unfolding not_other
not_other_append [] us = refl
not_other_append (string s ∷ ts) us = ap (λ xs. string s ∷ xs) (not_other_append ts us)
not_other_append (integer t v ∷ ts) us = ap (λ xs. integer t v ∷ xs) (not_other_append ts us)
not_other_append (other s ∷ ts) us = not_other_append ts us

module _ (e : Environment) (g : Generated) where
  abbrev texts : List Origin → List Token
  texts os = flat (origin_tokens e g) os

  -- the token of an origin that is an `int` row
  int_token : (x : Origin) (n v : ℕ) → int_at g x ≡ some (record { ty = n; value = v }) → origin_tokens e g x ≡ integer (literal_type (type_at e n)) v ∷ []
  unfolding origin_tokens
  int_token (of_binding b) n v h = ap (int_tokens e) h
  int_token (of_arm j) n v h = ap (int_tokens e) h
  int_token of_name n v h = absurd (none_some h)
  int_token (of_return j) n v h = absurd (none_some h)
  int_token of_declared n v h = absurd (none_some h)

  spelled_order : (d : ℕ) {a : Bool} {ps : List Piece} {os : List Origin} → Spelled e g a ps os → not_other (piece_tokens e d ps) ≡ texts os
  unfolding piece_tokens not_other flat token
  spelled_order d done = refl
  spelled_order d (quietly p h hs) = rw (quiet_token e d p h) (spelled_order d hs)
  spelled_order d (number n hs) = spelled_order d hs
  spelled_order d (field_number k n hs) = spelled_order d hs
  spelled_order d (literal x n v h t hs) = rw (t, int_token x n v h) (ap (λ ts. integer (literal_type (type_at e n)) v ∷ ts) (spelled_order d hs))

  words_order : {i : Option ℕ} (d : ℕ) {ps : List Piece} {os : List Origin} → Words e g i ps os → not_other (piece_tokens e d ps) ≡ texts os
  unfolding piece_tokens not_other flat token origin_tokens
  words_order d (unquoted h) = spelled_order d h
  words_order d (log_line i l r q bs h) = ap (λ x. string (sym_text e (term_of e g).name) ∷ (return_tokens e x ++ [])) (back h)
  words_order d last_line = refl

  written_order : {i : Option ℕ} (d k : ℕ) {w : What} {os : List Origin} → Written e g i w os → not_other (what_tokens e d k w) ≡ texts os
  unfolding what_tokens not_other flat
  written_order d k (in_words h) = words_order d h
  written_order d k at_overflow = refl
  written_order d k (at_closure x) = refl

  pub parts_order : {ps : List Part} {os : List Origin} → Parts e g ps os → not_other (part_tokens e ps) ≡ texts os
  unfolding part_tokens not_other flat
  parts_order no_parts = refl
  parts_order (one_part {qs = qs} {os = os} {us = us} q h hs) =
      let d : ℕ = q.around + q.base in
      not_other_append (what_tokens e d q.around q.what) _ ∙ ap (λ xs. xs ++ not_other (part_tokens e qs)) (written_order d q.around h) ∙ ap (λ xs. texts os ++ xs) (parts_order hs) ∙ back (flat_append (origin_tokens e g) os us)

-- BLOCK TABLES

pub tokens_by_block_tables : (p : Plan) (g : Generated) (b : BlockTable p g) → part_tokens p.env (all_parts p.options p.env p.generated) ≡ tables_tokens p b.before ++ (table_tokens p g ++ tables_tokens p b.after)
tokens_by_block_tables p g b = rw (b.is, all_parts_append, one_more, tokens_append, tokens_append) refl
