-- No piece but `break` ends a line.
use Rattle.std.specs.Prelude.{ℕ, zero, suc, ◌+◌, ◌-◌, ◌*◌, ◌/◌, ◌%◌, ◌^◌, ◌≡◌, refl, Bool, true, false, cond, not, ◌&&◌, ◌||◌, List, [], ◌∷◌, ◌++◌, get_or, replicate, ltb, eqb}
use Rattle.std.proofs.Math.Option.{Option, some, none}
use Rattle.std.proofs.Common.{arith, ne_eqb}
use Rattle.text.specs.Codes.{codes}
use Rattle.text.specs.Digits.{digit, digits, decimal, hexadecimal, signed}
use Rattle.text.specs.Sink.{spaces}
use Rattle.literal.specs.declared.builtin_type.IntType.{IntType}
use Rattle.literal.specs.declared.builtin_type.IntType.TheVariants.{U8, U16, U32, U64, U128, USize, I8, I16, I32, I64, I128, ISize}
use Rattle.literal.specs.declared.builtin_type.BuiltinType.{BuiltinType}
use Rattle.literal.specs.declared.builtin_type.BuiltinType.TheVariants as builtin
use Rattle.literal.specs.BuiltinType.{int_name, is_signed, name as builtin_name}
use Rattle.literal.specs.Literal.{written_bits, rust_int_literal, literal}
use Rattle.literal.specs.Quote.{quote, backslash, escaped, quoted}
use Rattle.plan.specs.Plan.{TypeData, Builtin, Primitive, Enum, Struct, Environment}
use Rattle.plan.specs.Lookup.{type_at}
use Rattle.codegen.specs.Piece.{plain, Piece, fix, file, sym as name, pos, type, quoted_sym, quoted_pos, num, var, new, lit, brace, unbrace, break, indent, type_text, bytes, break_piece}
use Rattle.splitting.specs.Cases.{and_left, and_right, and_both}

-- every text is plain
abbrev pub plains : List (List ℕ) → Bool
plains [] = true
plains (x ∷ xs) = plain x && plains xs

-- a plan's own texts end no line
pub record Clean (e : Environment) : Type 0 where
  pub files : plains e.files ≡ true
  pub syms : plains e.syms ≡ true
  pub poss : plains e.poss ≡ true

pub plain_append : (u v : List ℕ) → plain u ≡ true → plain v ≡ true → plain (u ++ v) ≡ true
plain_append [] v p q = q
plain_append (c ∷ u) v p q = and_both (and_left (not (eqb c 10)) (plain u) p) (plain_append u v (and_right (not (eqb c 10)) (plain u) p) q)

pub plain_getD : (xs : List (List ℕ)) (n : ℕ) → plains xs ≡ true → plain (get_or xs n []) ≡ true
plain_getD [] n p = refl
plain_getD (x ∷ xs) zero p = and_left (plain x) (plains xs) p
plain_getD (x ∷ xs) (suc n) p = plain_getD xs n (and_right (plain x) (plains xs) p)

plain_cond : (b : Bool) (u v : List ℕ) → plain u ≡ true → plain v ≡ true → plain (cond b u v) ≡ true
plain_cond true u v p q = p
plain_cond false u v p q = q

plain_replicate : (n : ℕ) → plain (replicate n 32) ≡ true
plain_replicate zero = refl
plain_replicate (suc n) = plain_replicate n

pub plain_indent : (d : ℕ) → plain (indent d) ≡ true
unfolding indent spaces
plain_indent d = plain_replicate (4 * d)

plain_digit : (n : ℕ) → not (eqb (digit n) 10) ≡ true
plain_digit n = go (ltb n 10)
  where
    go : (b : Bool) → not (eqb (cond b (n + 48) (n + 87)) 10) ≡ true
    go true = rw (ne_eqb (n + 48) 10 (λ q. omega arith))
    go false = rw (ne_eqb (n + 87) 10 (λ q. omega arith))

plain_one_digit : (n : ℕ) → plain (digit n ∷ []) ≡ true
plain_one_digit n = and_both (plain_digit n) refl

plain_digits : (b k n : ℕ) → plain (digits b k n) ≡ true
unfolding digits
plain_digits b zero n = refl
plain_digits b (suc k) n =
    plain_cond (ltb n b) (digit n ∷ []) _ (plain_one_digit n) (plain_append (digits b k (n / b)) (digit (n % b) ∷ []) (plain_digits b k (n / b)) (plain_one_digit (n % b)))

pub plain_decimal : (n : ℕ) → plain (decimal n) ≡ true
unfolding decimal
plain_decimal n = plain_digits 10 (suc n) n

plain_hexadecimal : (n : ℕ) → plain (hexadecimal n) ≡ true
unfolding hexadecimal
plain_hexadecimal n = plain_digits 16 (suc n) n

plain_signed : (w n : ℕ) → plain (signed w n) ≡ true
unfolding signed
plain_signed w n = plain_cond (ltb n (2 ^ (w - 1))) (decimal n) _ (plain_decimal n) (plain_decimal (2 ^ w - n))

plain_escaped : (s : List ℕ) → plain s ≡ true → plain (escaped s) ≡ true
unfolding escaped
plain_escaped [] p = refl
plain_escaped (c ∷ s) p =
    let h : plain (c ∷ escaped s) ≡ true = and_both (and_left (not (eqb c 10)) (plain s) p) (plain_escaped s (and_right (not (eqb c 10)) (plain s) p)) in
    plain_cond (eqb c quote || eqb c backslash) (backslash ∷ c ∷ escaped s) (c ∷ escaped s) h h

plain_quoted : (s : List ℕ) → plain s ≡ true → plain (quoted s) ≡ true
unfolding quoted
plain_quoted s p = plain_append (escaped s) (quote ∷ []) (plain_escaped s p) refl

plain_int_name : (t : IntType) → plain (codes (int_name t)) ≡ true
plain_int_name U8 = refl
plain_int_name U16 = refl
plain_int_name U32 = refl
plain_int_name U64 = refl
plain_int_name U128 = refl
plain_int_name USize = refl
plain_int_name I8 = refl
plain_int_name I16 = refl
plain_int_name I32 = refl
plain_int_name I64 = refl
plain_int_name I128 = refl
plain_int_name ISize = refl

plain_builtin : (t : BuiltinType) → plain (codes (builtin_name t)) ≡ true
plain_builtin builtin.Bool = refl
plain_builtin (builtin.Int t) = plain_int_name t

plain_literal : (t : Option IntType) (v : ℕ) → plain (literal t v) ≡ true
unfolding literal rust_int_literal
plain_literal none v = plain_hexadecimal v
plain_literal (some t) v =
    let cast : ℕ = v % 2 ^ written_bits t in
    plain_append (cond (is_signed t) (signed (written_bits t) cast) (codes "0x" ++ hexadecimal cast)) (codes "_" ++ codes (int_name t))
    (plain_cond (is_signed t) _ _ (plain_signed (written_bits t) cast) (plain_hexadecimal cast)) (plain_int_name t)

plain_type : {e : Environment} → Clean e → (t : TypeData) → plain (type_text e t) ≡ true
unfolding type_text
plain_type {e} c (Builtin t) = plain_builtin t
plain_type {e} c (Primitive n) = plain_getD e.syms n c.syms
plain_type {e} c (Enum d) = plain_getD e.syms d.name c.syms
plain_type {e} c (Struct d f) = plain_getD e.syms d.name c.syms

-- what a piece is to a line: its end, or a part of it that is the same at each depth
pub data Seen (e : Environment) : Piece → Type 0 where
  ended : (k : ℕ) → Seen e (break k)
  inline : {p : Piece} → ((d : ℕ) → plain (bytes e d p) ≡ true) → ((d d' : ℕ) → bytes e d p ≡ bytes e d' p) → break_piece p ≡ 0 → Seen e p

pub seen : {e : Environment} → Clean e → (p : Piece) → Seen e p
unfolding bytes break_piece
seen {e} c (fix s h) = inline (λ d. h) (λ d d'. refl) refl
seen {e} c (file n) = inline (λ d. plain_getD e.files n c.files) (λ d d'. refl) refl
seen {e} c (name n) = inline (λ d. plain_getD e.syms n c.syms) (λ d d'. refl) refl
seen {e} c (pos n) = inline (λ d. plain_getD e.poss n c.poss) (λ d d'. refl) refl
seen {e} c (type n) = inline (λ d. plain_type c (type_at e n)) (λ d d'. refl) refl
seen {e} c (quoted_sym n) = inline (λ d. plain_quoted (get_or e.syms n []) (plain_getD e.syms n c.syms)) (λ d d'. refl) refl
seen {e} c (quoted_pos n) = inline (λ d. plain_quoted (get_or e.poss n []) (plain_getD e.poss n c.poss)) (λ d d'. refl) refl
seen {e} c (num n) = inline (λ d. plain_decimal n) (λ d d'. refl) refl
seen {e} c (var n) = inline (λ d. plain_decimal n) (λ d d'. refl) refl
seen {e} c (new n) = inline (λ d. plain_decimal n) (λ d d'. refl) refl
seen {e} c (lit t v) = inline (λ d. plain_literal t v) (λ d d'. refl) refl
seen {e} c brace = inline (λ d. refl) (λ d d'. refl) refl
seen {e} c unbrace = inline (λ d. refl) (λ d d'. refl) refl
seen {e} c (break k) = ended k
