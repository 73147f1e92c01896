-- Each literal and each quoted text, read by the Rust Reference, is what it was written from; and which literals are odd.
-- Assumes nothing.
use Rattle.std.specs.Prelude.{ℕ, ◌%◌, ◌^◌, ◌<◌, ◌≡◌, refl, Bool, true, false, List, [], ◌++◌, ltb}
use Rattle.std.proofs.Common.{ap, ◌∙◌, append-nil, mod-eq_of_lt, mod-lt, lit≤, ltb-true, ltb-false, lt-ltb, le-leb}
use Rattle.std.proofs.Math.Option.{Option, some, none}
use Rattle.std.proofs.Math.Nat.{mod-mod, one-le-pow}
use Rattle.std.proofs.lemmas.Bool.{not-false}
use Rattle.text.specs.Codes.{codes}
use Rattle.text.specs.Digits.{signed}
use Rattle.text.specs.Split.{same}
use Rattle.literal.specs.declared.builtin_type.IntType.{IntType}
use Rattle.literal.specs.declared.builtin_type.IntType.TheVariants.{U128, USize, I128, ISize}
use Rattle.literal.specs.BuiltinType.{is_signed, bits}
use Rattle.literal.specs.Literal.{rust_int_literal, literal, in_range, odd}
use Rattle.literal.specs.Quote.{escaped, quoted}
use Rattle.literal.specs.Reference.{typed, untyped, cast, type_named, digits_of, suffix_of, integer_value, string_value}
use Rattle.literal.specs.Extend.{extend}
use Rattle.literal.specs.ReadBack.{extended}
use Rattle.literal.proofs.ReadBackLaws.{read_written, read_hexadecimal, extend_signed, unchanged_signed, written_width}
use Rattle.literal.specs.QuoteLaws.{printable, unmarked, append_escaped, unmarked_escaped, read_escaped}

-- INTEGER LITERALS

-- A literal of an integer type is its value wrapped to the type, whatever the value.
pub read_back : (t : IntType) (v : ℕ) → integer_value (rust_int_literal t v) ≡ some (typed t (v % 2 ^ bits t))
read_back t v = read_written t v

-- A literal of another type has no suffix, and is its value.
pub read_back_untyped : (v : ℕ) → v < 2 ^ 128 → integer_value (literal none v) ≡ some (untyped v)
unfolding literal cast type_named same digits_of suffix_of
read_back_untyped v h = rw append-nil at (read_hexadecimal v [] [] h refl refl)

-- Wrapping does not change a value inside the type's range ..
pub read_back_value : (t : IntType) (v : ℕ) → in_range t v ≡ true → v < 2 ^ 128 → extend t (v % 2 ^ bits t) ≡ v
unfolding extend in_range
read_back_value t v i h = go (is_signed t) refl
  where
    go : (b : Bool) → is_signed t ≡ b → extend t (v % 2 ^ bits t) ≡ v
    go true e = rw e (extend_signed t v (rw e at i) h)
    go false e = rw e (mod-eq_of_lt (ltb-true v (2 ^ bits t) (rw e at i)))

-- .. and changes every other.
pub read_back_outside : (t : IntType) (v : ℕ) → extend t (v % 2 ^ bits t) ≡ v → in_range t v ≡ true
unfolding extend in_range
read_back_outside t v h = go (is_signed t) refl
  where
    go : (b : Bool) → is_signed t ≡ b → in_range t v ≡ true
    go true e = rw e (unchanged_signed t v (rw e at h))
    go false e = rw e (lt-ltb v (2 ^ bits t) (rw (rw e at h) at (mod-lt v (one-le-pow (bits t) 2 (lit≤ tt)))))

-- So a literal that is not odd is its value, of usize and isize too.
pub read_back_not_odd : (t : Option IntType) (v : ℕ) → v < 2 ^ 128 → odd t v ≡ false → extended (integer_value (literal t v)) ≡ some v
unfolding extended odd literal
read_back_not_odd none v h o = ap extended (read_back_untyped v h)
read_back_not_odd (some t) v h o = ap extended (read_back t v) ∙ ap (λ (n : ℕ). some n) (read_back_value t v (not-false (in_range t v) o) h)

-- WHICH TEXT

-- Values that wrap alike are written alike; only usize and isize are written uncast.
pub wrapped_alike : (t : IntType) (v : ℕ) → (t ≡ USize → ⊥) → (t ≡ ISize → ⊥) → rust_int_literal t (v % 2 ^ bits t) ≡ rust_int_literal t v
unfolding rust_int_literal
wrapped_alike t v f g = rw (written_width t f g, mod-mod)

pub usize_uncast : (v : ℕ) → v < 2 ^ 128 → rust_int_literal USize v ≡ literal none v ++ codes "_usize"
unfolding rust_int_literal literal
usize_uncast v h = rw (mod-eq_of_lt h)

pub isize_uncast : (v : ℕ) → v < 2 ^ 128 → rust_int_literal ISize v ≡ signed 128 v ++ codes "_isize"
unfolding rust_int_literal
isize_uncast v h = rw (mod-eq_of_lt h)

-- ODD LITERALS: "literals of u128, i128 and non-integer types never count"

pub u128_never_odd : (v : ℕ) → v < 2 ^ 128 → odd (some U128) v ≡ false
unfolding odd in_range
u128_never_odd v h = rw (lt-ltb v (2 ^ 128) h)

pub i128_never_odd : (v : ℕ) → odd (some I128) v ≡ false
unfolding odd in_range
i128_never_odd v = go (ltb v (2 ^ 127)) refl
  where
    go : (b : Bool) → ltb v (2 ^ 127) ≡ b → odd (some I128) v ≡ false
    go true q = rw q
    go false q = rw (q, le-leb (2 ^ 127) v (ltb-false v (2 ^ 127) q))

pub other_never_odd : (v : ℕ) → odd none v ≡ false
unfolding odd
other_never_odd v = refl

-- QUOTED TEXTS

-- A quoted text is the text it came from.
pub quoted_read_back : (s : List ℕ) → printable s ≡ true → string_value (quoted s) ≡ some s
unfolding quoted string_value
quoted_read_back s h = read_escaped s h

-- Quotes and backslashes are escaped by a backslash, and nothing else is.
pub escaped_quote : escaped (codes "\"") ≡ codes "\\\""
unfolding escaped
escaped_quote = refl

pub escaped_backslash : escaped (codes "\\") ≡ codes "\\\\"
unfolding escaped
escaped_backslash = refl

pub escaped_unmarked : (s : List ℕ) → unmarked s ≡ true → escaped s ≡ s
escaped_unmarked s h = unmarked_escaped s h

pub escaped_append : (s t : List ℕ) → escaped (s ++ t) ≡ escaped s ++ escaped t
escaped_append s t = append_escaped s t
