-- Helper laws of quoting: what an escaped text reads back as, and that nothing else is escaped. Assumes nothing.
use Rattle.std.specs.Prelude.{ℕ, ◌+◌, ◌≤◌, ◌<◌, ◌≡◌, refl, Bool, true, false, cond, not, ◌&&◌, ◌||◌, List, [], ◌∷◌, ◌++◌, length, take, get_or, leb, eqb}
use Rattle.std.proofs.Common.{ap, ◌∙◌, add-one, arith, take-suc, take_all, leb-true, eqb-true, ne_eqb}
use Rattle.std.proofs.Math.Bool.{and-eq-true_iff}
use Rattle.std.proofs.Math.Option.{some}
use Rattle.std.proofs.lemmas.Bool.{not-true}
use Rattle.literal.specs.Quote.{quote, backslash, escaped, quoted}
use Rattle.literal.specs.Reference.{within, text, characters, after, after_escape, go_on, with}

-- a text of bytes 20 to 7E (hexadecimal)
unfoldable pub printable : List ℕ → Bool
printable [] = true
printable (c ∷ s) = within 32 126 c && printable s

-- a text with neither a quote nor a backslash
unfoldable pub unmarked : List ℕ → Bool
unmarked [] = true
unmarked (c ∷ s) = not (eqb c quote || eqb c backslash) && unmarked s

cond_append : (b : Bool) (x y z : List ℕ) → cond b x y ++ z ≡ cond b (x ++ z) (y ++ z)
cond_append true x y z = refl
cond_append false x y z = refl

pub append_escaped : (s t : List ℕ) → escaped (s ++ t) ≡ escaped s ++ escaped t
unfolding escaped
append_escaped [] t = refl
append_escaped (c ∷ s) t = rw (append_escaped s t, cond_append)

pub unmarked_escaped : (s : List ℕ) → unmarked s ≡ true → escaped s ≡ s
unfolding unmarked escaped
unmarked_escaped [] h = refl
unmarked_escaped (c ∷ s) h =
    let p = (and-eq-true_iff (not (eqb c quote || eqb c backslash)) (unmarked s)).0 h in
    rw (not-true (eqb c quote || eqb c backslash) p.0) (ap (λ (r : List ℕ). c ∷ r) (unmarked_escaped s p.1))

-- has a byte a backslash before it?
abbrev pub is_escaped : ℕ → Bool
is_escaped c = eqb c quote || eqb c backslash

-- the text put in parts
pub escaped_mark : (c : ℕ) → is_escaped c ≡ true → escaped (c ∷ []) ≡ backslash ∷ c ∷ []
unfolding escaped
escaped_mark c h = rw h

pub escaped_other : (c : ℕ) → is_escaped c ≡ false → escaped (c ∷ []) ≡ c ∷ []
unfolding escaped
escaped_other c h = rw h

pub escaped_none : (s : List ℕ) → escaped (take 0 s) ≡ []
unfolding escaped
escaped_none s = refl

pub escaped_more : (s : List ℕ) (i : ℕ) → i < length s → escaped (take (i + 1) s) ≡ escaped (take i s) ++ escaped (get_or s i 0 ∷ [])
escaped_more s i h = rw (add-one, take-suc s i 0 h) (append_escaped (take i s) (get_or s i 0 ∷ []))

pub quoted_all : (s : List ℕ) (i : ℕ) → length s ≤ i → quoted s ≡ quote ∷ escaped (take i s) ++ (quote ∷ [])
unfolding quoted
quoted_all s i h = rw (take_all i s h)

-- one character of a text, as it stands in the literal before the rest
read_character : (c : ℕ) (rest : List ℕ) → 32 ≤ c → characters text (cond (eqb c quote || eqb c backslash) (backslash ∷ c ∷ rest) (c ∷ rest)) ≡ with c (characters text rest)
unfolding characters after after_escape go_on
read_character c rest h = go (eqb c quote) (eqb c backslash) refl refl
  where
    go : (q b : Bool) → eqb c quote ≡ q → eqb c backslash ≡ b → characters text (cond (eqb c quote || eqb c backslash) (backslash ∷ c ∷ rest) (c ∷ rest)) ≡ with c (characters text rest)
    go true b q e = rw (eqb-true c quote q)
    go false true q e = rw (eqb-true c backslash e)
    go false false q e = rw (q, e, q, e, ne_eqb c 13 (λ l. omega arith))

pub read_escaped : (s : List ℕ) → printable s ≡ true → characters text (escaped s ++ (quote ∷ [])) ≡ some s
unfolding printable escaped characters after go_on with
read_escaped [] h = refl
read_escaped (c ∷ s) h =
    let p = (and-eq-true_iff (within 32 126 c) (printable s)).0 h in
    let from : 32 ≤ c = leb-true 32 c ((and-eq-true_iff (leb 32 c) (leb c 126)).0 p.0).0 in
    ap (characters text) (cond_append (eqb c quote || eqb c backslash) (backslash ∷ c ∷ escaped s) (c ∷ escaped s) (quote ∷ []))
    ∙ read_character c (escaped s ++ (quote ∷ [])) from ∙ ap (with c) (read_escaped s p.1)
