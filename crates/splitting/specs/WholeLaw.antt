-- The whole text: the lines before the terms stay as they are, and so does the last of them where it has no end of its own.
use Prim.Native.Nat.{ℕ, suc, ◌+◌}
use Rattle.std.specs.Prelude.{◌≡◌, false, replicate}
use Rattle.std.proofs.Math.Path.{refl, ap}
use Rattle.std.proofs.Common.{sym, ap₂, ◌∙◌, zero-add}
use Rattle.std.proofs.Math.Bool.{true}
use Rattle.std.proofs.Math.Option.{Option, some, none, map}
use mathlib.Core.List.{List, [], ◌∷◌, ◌++◌, append_assoc}
use native.Mathlib.Omega.{arith}
use Rattle.text.specs.Sink.{spaces}
use Rattle.plan.specs.Plan.{Plan, Options, Environment, Generated}
use Rattle.codegen.specs.Piece.{plain, indent, Piece, bytes, render, break_piece, breaks}
use Rattle.codegen.specs.Block.{text_of, part_bytes, what_bytes, line_bytes}
use Rattle.codegen.specs.Items.{generate_header, items}
use Rattle.codegen.specs.Terms.{rowless, signature, term_parts, all_parts, terms_text}
use Rattle.codegen.specs.Answer.{whole_text}
use Rattle.codegen.specs.TakeOff.{Tag, kept, part_tags, term_tags, tags, first_line, other_lines, spaces_off, edited, joined, edit_lines, take_off_terms, take_off}
use Rattle.splitting.specs.Cases.{none_some}
use Rattle.splitting.specs.Plains.{Clean, plain_append, plain_indent, Seen, ended, inline, seen}
use Rattle.splitting.specs.Lines.{edit_kept}
use Rattle.splitting.specs.TermsLaw.{Alike, all_arms_placed, no_tags, terms_off}

-- a line that is below no split arm stays
kept_line : (gs : List Tag) (u s r : List ℕ) → plain u ≡ true → edit_lines gs s ≡ some r → edit_lines (kept 0 ∷ gs) (u ++ (10 ∷ s)) ≡ some (u ++ (10 ∷ r))
unfolding indent spaces
kept_line gs u s r p k = edit_kept 0 gs u s r p k

-- what is left of a text that begins with an empty line
record Left (gs : List Tag) (s r : List ℕ) : Type 0 where
  rest : List ℕ
  edits : edit_lines gs s ≡ some rest
  is : 10 ∷ rest ≡ r

after_empty : (gs : List Tag) (s r : List ℕ) → edit_lines (kept 0 ∷ gs) (10 ∷ s) ≡ some r → Left gs s r
unfolding edit_lines edited spaces_off first_line other_lines
after_empty gs s r h = go (edit_lines gs s) refl h
  where
    go : (x : Option (List ℕ)) → edit_lines gs s ≡ x → joined (some (10 ∷ [])) x ≡ some r → Left gs s r
    go none e k = none_some k
    go (some y) e k = record { rest = y; edits = e; is = cc }

-- a term's text begins with an empty line, which ends a line that has no end of its own
terms_after : (o : Options) (e : Environment) (gs : List Generated) (u r : List ℕ) → plain u ≡ true → edit_lines (term_tags o e gs) (text_of e (all_parts o e gs)) ≡ some r
    → edit_lines (term_tags o e gs) (u ++ text_of e (all_parts o e gs)) ≡ some (u ++ r)
unfolding term_tags part_tags all_parts term_parts signature rowless breaks text_of part_bytes what_bytes line_bytes render indent spaces
terms_after o e [] u r p h = no_tags _ ∙ ap (λ (x : Option (List ℕ)). map (λ t. u ++ t) x) (sym (no_tags []) ∙ h)
terms_after o e (g ∷ gs) u r p h = let w = after_empty _ _ r h in kept_line _ u _ w.rest p w.edits ∙ ap (λ (t : List ℕ). some (u ++ t)) w.is

module _ {e : Environment} (c : Clean e) (gs : List Tag) (s r : List ℕ) (after : (u : List ℕ) → plain u ≡ true → edit_lines gs (u ++ s) ≡ some (u ++ r)) where
  -- pieces that stand after the plain bytes u of their first line, before a text s that may end their last line
  edit_pieces : (ps : List Piece) (u : List ℕ) → plain u ≡ true → edit_lines (replicate (breaks ps) (kept 0) ++ gs) (u ++ (render e 0 ps ++ s)) ≡ some (u ++ (render e 0 ps ++ r))
  unfolding render breaks break_piece bytes
  edit_pieces [] u p = after u p
  edit_pieces (x ∷ ps) u p = go x (seen c x) (λ v q. edit_pieces ps v q)
    where
      go : (x : Piece) → Seen e x
          → ((v : List ℕ) → plain v ≡ true → edit_lines (replicate (breaks ps) (kept 0) ++ gs) (v ++ (render e 0 ps ++ s)) ≡ some (v ++ (render e 0 ps ++ r)))
          → edit_lines (replicate (breaks (x ∷ ps)) (kept 0) ++ gs) (u ++ (render e 0 (x ∷ ps) ++ s)) ≡ some (u ++ (render e 0 (x ∷ ps) ++ r))
      go x (ended k) f =
          let q : 1 + breaks ps ≡ suc (breaks ps) = omega arith in
          rw (q, append_assoc, append_assoc) (kept_line _ u _ _ p (f (indent (0 + k)) (plain_indent (0 + k))))
      go x (inline {p = y} h d z) f = rw (z, zero-add) (simp append_assoc (simp append_assoc at (f (u ++ bytes e 0 y) (plain_append u (bytes e 0 y) p (h 0)))))

module _ (p q : Plan) (a : Alike p q) (m : p.options.nopragmas ≡ q.options.nopragmas) (f : q.options.split ≡ false) (c : Clean p.env) (n : all_arms_placed p.generated ≡ true) where
  same_items : items p ≡ items q
  unfolding items generate_header
  same_items = rw (a.env, m)

  pub whole_off : take_off p (whole_text p) ≡ some (whole_text q)
  unfolding take_off whole_text terms_text tags take_off_terms
  whole_off =
      edit_pieces c (tags p) (terms_text p) (terms_text q) (λ u h. terms_after p.options p.env p.generated u _ h (terms_off p q a f c n)) (items p) [] refl
      ∙ ap (λ (x : List ℕ). some (x ++ terms_text q)) (ap₂ (λ (t : Environment) (x : List Piece). render t 0 x) a.env same_items)
