-- No literal and no quoted text of an accepted plan's text runs on into the bytes beside it: the Reference reads each as one token.
-- Assumes nothing.
use Rattle.std.specs.Prelude.{ℕ, ◌≡◌, refl, Bool, true, List, [], ◌∷◌, ◌++◌}
use Rattle.std.proofs.Math.Option.{Option, none}
use mathlib.Core.List.Memᴰ
use Rattle.plan.specs.Plan.{Options, Environment, Generated, Plan}
use Rattle.plan.specs.Refusal.{accepted, outcome}
use Rattle.codegen.specs.Block.{words, line, Part}
use Rattle.codegen.specs.Items.{items}
use Rattle.codegen.specs.Terms.{rowless, signature, term_parts, all_parts}
use Rattle.read_back.specs.Tokens.{Token, string, integer, other, token_bytes, joined, piece_tokens, what_tokens, part_tokens, terms_tokens, whole_tokens, ReadsBack, ◌∈◌}
use Rattle.read_back.proofs.TokenLaws.{Each}
use Rattle.read_back.proofs.Theorems.{terms_text_reads_back, whole_text_reads_back}
use Rattle.read_back.proofs.TokenOrigins.{IsOther, items_other}
use Rattle.token_boundaries.specs.Boundary.{may_precede, ends, TokensStand}
use Rattle.token_boundaries.proofs.LexingLaws.{literal_is_token, text_is_token}
use Rattle.token_boundaries.proofs.BlockBoundaries.{parts_sound, all_sound}
use Rattle.token_boundaries.proofs.TokenBoundaries.{ends_append, Beside, Bounded, parts_bounded}

-- THE TERMS

-- the lines of the terms begin with an empty one, so it matters not what stands before them
first_line : (e : Environment) (i : Option ℕ) (d k : ℕ) (ps : List Part) → parts_sound ps ≡ true → (b : Bool) → Bounded b (part_tokens e (record { row = i; base = d; around = k; what = line (words []) } ∷ ps))
unfolding part_tokens what_tokens piece_tokens Bounded token_bytes
first_line e i d k ps h b = (tt, (tt, parts_bounded e ps h))

no_line : (e : Environment) (b : Bool) → Bounded b (part_tokens e [])
unfolding part_tokens Bounded
no_line e b = tt

terms_bounded : (o : Options) (e : Environment) (gs : List Generated) (b : Bool) → Bounded b (part_tokens e (all_parts o e gs))
unfolding all_parts term_parts signature rowless
terms_bounded o e [] b = no_line e b
terms_bounded o e (g ∷ gs) b = first_line e none 0 0 _ (all_sound o e (g ∷ gs)) b

-- what stands before the terms has neither literals nor quoted texts
others_bounded : (e : Environment) (ts us : List Token) → Each (IsOther e) ts → ((b : Bool) → Bounded b us) → (b : Bool) → Bounded b (ts ++ us)
unfolding Each Bounded
others_bounded e [] us h k b = k b
others_bounded e (string s ∷ ts) us h k b = absurd h.0
others_bounded e (integer t v ∷ ts) us h k b = absurd h.0
others_bounded e (other s ∷ ts) us h k b = (tt, others_bounded e ts us h.1 k _)

-- AT EACH PLACE

split : (b : Bool) (ts : List Token) (t : Token) (us : List Token) → Bounded b (ts ++ (t ∷ us)) → Beside (ends may_precede b (joined ts)) t (joined us)
unfolding Bounded joined
split b [] t us h = h.0
split b (x ∷ ts) t us h = rw (ends_append may_precede b (token_bytes x) (joined ts)) (split (ends may_precede b (token_bytes x)) ts t us h.1)

stand : (tokens : List Token) → Bounded true tokens → ((t : Token) → t ∈ tokens → ReadsBack t) → TokensStand tokens
unfolding ReadsBack
stand tokens h r = record {
  literals = λ ts us t v e.
      let w = split true ts (integer t v) us (rw e at h) in
      record { preceded = w.0; followed = w.1; token = literal_is_token t v (joined us) w.1 };
  texts = λ ts us s e.
      let w = split true ts (string s) us (rw e at h) in
      let m : string s ∈ tokens = rw e (Memᴰ.append_right ts (Memᴰ.head refl)) in
      record { preceded = w.0; followed = w.1; token = text_is_token s s (joined us) (r (string s) m) w.1 };
}

pub terms_tokens_stand : (plan : List ℕ) (p : Plan) → outcome plan ≡ accepted p → TokensStand (terms_tokens p)
unfolding terms_tokens
terms_tokens_stand plan p e = stand (terms_tokens p) (terms_bounded p.options p.env p.generated true) (terms_text_reads_back plan p e).each

pub whole_tokens_stand : (plan : List ℕ) (p : Plan) → outcome plan ≡ accepted p → TokensStand (whole_tokens p)
unfolding whole_tokens terms_tokens
whole_tokens_stand plan p e =
    stand (whole_tokens p) (others_bounded p.env (piece_tokens p.env 0 (items p)) _ (items_other p) (terms_bounded p.options p.env p.generated) true) (whole_text_reads_back plan p e).each
