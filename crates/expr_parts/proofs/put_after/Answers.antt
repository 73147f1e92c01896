use Rattle.std.proofs.Common.{refl}
use mathlib.Core.Logic.{inl, inr}
use Rattle.codegen.specs.Piece.{odd_piece, odd_pieces}
use Rattle.emits.specs.Sinks.{shows_none, shows_fix}
use Rattle.emits.specs.Runs.{emits_say, shows_plain, emits_plain}
use Rattle.expr_parts.proofs.Laws.{emits_nothing, after_none}
use Rattle.expr_parts.proofs.put_after.Goals as goal

pub returns-in-Iterator-clause-emits : goal.returns-in-Iterator-clause-emits
unfolding odd_pieces odd_piece
returns-in-Iterator-clause-emits c = λ env d. rw c.in-Iterator.is (emits_say refl (shows_fix c.put_bytes.ensures shows_none))

pub returns-in-Iterator-clause-plain : goal.returns-in-Iterator-clause-plain
unfolding odd_pieces odd_piece
returns-in-Iterator-clause-plain c = λ env d n. rw c.in-Iterator.is (emits_say refl (shows_plain n (shows_fix c.put_bytes.ensures shows_none)))

pub returns-in-MakeSome-clause-plain : goal.returns-in-MakeSome-clause-plain
unfolding odd_pieces odd_piece
returns-in-MakeSome-clause-plain c = λ env d n. rw c.in-MakeSome.is (emits_say refl (shows_plain n (shows_fix c.put_bytes-in-MakeSome.ensures shows_none)))

pub returns-in-MatchSome-clause-emits : goal.returns-in-MatchSome-clause-emits
returns-in-MatchSome-clause-emits c = λ env d. rw c.in-MatchSome.is (emits_plain (c.put_try.ensures.plain env d) c.put_try.ensures.odd)

pub returns-in-MatchSome-clause-plain : goal.returns-in-MatchSome-clause-plain
returns-in-MatchSome-clause-plain c = λ env d n. rw c.in-MatchSome.is (c.put_try.ensures.plain env d n)

pub returns-in-MatchTuple-clause-emits : goal.returns-in-MatchTuple-clause-emits
unfolding odd_pieces odd_piece
returns-in-MatchTuple-clause-emits c = λ env d. rw c.in-MatchTuple.is (emits_say refl (c.put_field.ensures.shows env d))

pub returns-in-MatchTuple-clause-plain : goal.returns-in-MatchTuple-clause-plain
unfolding odd_pieces odd_piece
returns-in-MatchTuple-clause-plain c = λ env d n. rw c.in-MatchTuple.is (emits_say refl (shows_plain n (c.put_field.ensures.shows env d)))

pub returns-in-MatchVariant-clause-emits : goal.returns-in-MatchVariant-clause-emits
unfolding odd_pieces odd_piece
returns-in-MatchVariant-clause-emits c = λ env d. elim c.in-MatchVariant.is [
  | inl h ↦ rw h (emits_say refl (c.put_fixme_field.ensures.shows env d))
  | inr h ↦ rw h (emits_say refl (c.put_fixme_field.ensures.shows env d))
]

pub returns-in-MatchVariant-clause-plain : goal.returns-in-MatchVariant-clause-plain
unfolding odd_pieces odd_piece
returns-in-MatchVariant-clause-plain c = λ env d n. elim c.in-MatchVariant.is [
  | inl h ↦ rw h (emits_say refl (shows_plain n (c.put_fixme_field.ensures.shows env d)))
  | inr h ↦ rw h (emits_say refl (shows_plain n (c.put_fixme_field.ensures.shows env d)))
]

pub returns-in_default-clause-plain : goal.returns-in_default-clause-plain
returns-in_default-clause-plain c =
    let k = c.in_default in
    λ env d n. rw (after_none c.args.k c.args.q k.not-Iterator k.not-MakeSome k.not-MatchSome k.not-MatchTuple k.not-MatchVariant k.not-ExtractStruct) emits_nothing
