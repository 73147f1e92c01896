-- The odd count is at most the text's length: an odd literal has at least one byte.
use Rattle.std.specs.Prelude.{ℕ, ◌+◌, ◌≤◌, Bool, true, false, cond, List, [], ◌∷◌, length}
use Rattle.std.proofs.Math.Option.{some, none}
use Rattle.std.proofs.Common.{arith, length-append}
use Rattle.literal.specs.declared.builtin_type.IntType.{IntType}
use Rattle.literal.specs.Literal.{rust_int_literal, literal, odd}
use Rattle.plan.specs.Plan.{Environment, Plan}
use Rattle.codegen.specs.Piece.{Piece, fix, file, sym, pos, type, quoted_sym, quoted_pos, num, var, new, lit, brace, unbrace, break, bytes, render, odd_piece, odd_pieces}
use Rattle.codegen.specs.Block.{words, overflow, What, line, edge, Part, line_bytes, what_bytes, part_bytes, text_of, odd_what, odds_of}
use Rattle.codegen.specs.Terms.{parts, terms_text, odds}
use Rattle.codegen.specs.Answer.{whole_text}

literal_some : (t : IntType) (v : ℕ) → 1 ≤ length (rust_int_literal t v)
unfolding rust_int_literal
literal_some t v = rw length-append (omega arith)

odd_piece_le : (e : Environment) (d : ℕ) (p : Piece) → odd_piece p ≤ length (bytes e d p)
unfolding odd_piece bytes odd literal
odd_piece_le e d (fix t h) = omega arith
odd_piece_le e d (file n) = omega arith
odd_piece_le e d (sym n) = omega arith
odd_piece_le e d (pos n) = omega arith
odd_piece_le e d (type n) = omega arith
odd_piece_le e d (quoted_sym n) = omega arith
odd_piece_le e d (quoted_pos n) = omega arith
odd_piece_le e d (num n) = omega arith
odd_piece_le e d (var n) = omega arith
odd_piece_le e d (new n) = omega arith
odd_piece_le e d (lit none v) = omega arith
odd_piece_le e d (lit (some t) v) = go (odd (some t) v)
  where
    go : (b : Bool) → cond b 1 0 ≤ length (rust_int_literal t v)
    go true = literal_some t v
    go false = omega arith
odd_piece_le e d brace = omega arith
odd_piece_le e d unbrace = omega arith
odd_piece_le e d (break k) = omega arith

odd_pieces_le : (e : Environment) (d : ℕ) (ps : List Piece) → odd_pieces ps ≤ length (render e d ps)
unfolding odd_pieces render
odd_pieces_le e d [] = omega arith
odd_pieces_le e d (p ∷ ps) = rw length-append (omega (arith, odd_piece_le e d p, odd_pieces_le e d ps))

odd_what_le : (e : Environment) (d k : ℕ) (w : What) → odd_what w ≤ length (what_bytes e d k w)
unfolding what_bytes line_bytes
odd_what_le e d k (line (words ps)) = odd_pieces_le e d ps
odd_what_le e d k (line overflow) = omega arith
odd_what_le e d k (edge g) = omega arith

odds_of_le : (e : Environment) (ps : List Part) → odds_of ps ≤ length (text_of e ps)
unfolding odds_of text_of part_bytes
odds_of_le e [] = omega arith
odds_of_le e (p ∷ ps) = simp length-append (omega (arith, odd_what_le e (p.around + p.base) p.around p.what, odds_of_le e ps))

pub odds_le : (p : Plan) → odds p ≤ length (terms_text p)
unfolding odds terms_text
odds_le p = odds_of_le p.env (parts p)

pub odds_le_whole : (p : Plan) → odds p ≤ length (whole_text p)
unfolding whole_text
odds_le_whole p = rw length-append (omega (arith, odds_le p))
