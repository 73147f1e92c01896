-- Demand 2, from "Read back one by one by the Rust Reference" on, of the text of every accepted plan, and where the literals and quoted
-- texts of every plan's text come from. The statements are over the tokens of Tokens.antt: `Reads`, and Origins.antt. Assumes nothing.
use Rattle.std.specs.Prelude.{ℕ, ◌≡◌, List, [], ◌++◌}
use Rattle.std.proofs.Common.{ap}
use Rattle.plan.specs.Plan.{Generated, Plan}
use Rattle.plan.specs.Refusal.{accepted, outcome}
use Rattle.codegen.specs.Terms.{terms_text, odds}
use Rattle.codegen.specs.Items.{items}
use Rattle.codegen.specs.Answer.{whole_text}
use Rattle.splitting.specs.Demand3.{BlockTable}
use Rattle.origin.specs.Origin.{origins, Parts}
use Rattle.origin.proofs.BlockOrigins.{term_origins}
use Rattle.read_back.specs.Tokens.{Token, piece_tokens, terms_tokens, whole_tokens, ReadsBack, Reads, ◌∈◌}
use Rattle.read_back.proofs.TokenLaws.{Each, each_append, each_in, terms_joined, whole_joined, terms_counted, whole_counted}
use Rattle.read_back.specs.Origins.{table_parts, OriginsOf, Origins}
use Rattle.read_back.proofs.TokenOrigins.{IsOther, items_other, parts_origin, parts_order, tokens_by_block_tables}
use Rattle.read_back.proofs.ReadLaws.{items_read, items_not_odd, terms_read}
use Rattle.read_back.proofs.Accepted.{Readable, accepted_readable}

pub terms_text_reads_back : (plan : List ℕ) (p : Plan) → outcome plan ≡ accepted p → Reads (terms_text p) (odds p) (terms_tokens p)
terms_text_reads_back plan p e =
    let r : Readable p = accepted_readable plan p e in
    record { made_of = terms_joined p; each = each_in ReadsBack (terms_tokens p) (terms_read p r); counted = terms_counted p }

pub whole_text_reads_back : (plan : List ℕ) (p : Plan) → outcome plan ≡ accepted p → Reads (whole_text p) (odds p) (whole_tokens p)
unfolding whole_tokens
whole_text_reads_back plan p e =
    let r : Readable p = accepted_readable plan p e in
    record {
      made_of = whole_joined p;
      each = each_in ReadsBack (whole_tokens p) (each_append ReadsBack (piece_tokens p.env 0 (items p)) _ (items_read p) (terms_read p r));
      counted = whole_counted p (items_not_odd p);
    }

-- tokens before the terms that are other bytes, and then those of the terms
origins_after : (p : Plan) (head : List Token) → Each (IsOther p.env) head → Origins p head (head ++ terms_tokens p)
unfolding terms_tokens
origins_after p head h =
    let each : (t : Token) → t ∈ head → IsOther p.env t = each_in (IsOther p.env) head h in
    record { of = of_table; no_strings = λ m. each _ m; no_integers = λ m. each _ m; head_bytes = λ m. each _ m }
  where
    of_table : (g : Generated) (b : BlockTable p g) → OriginsOf p g b head (head ++ terms_tokens p)
    of_table g b =
        let parts : Parts p.env g (table_parts p g) (origins p.options p.env g) = term_origins p.options p.env g in
        record { stands = ap (λ ts. head ++ ts) (tokens_by_block_tables p g b); in_order = parts_order p.env g parts; lines = parts; tokens = parts_origin p.env g parts }

pub terms_text_origins : (p : Plan) → Origins p [] (terms_tokens p)
unfolding Each
terms_text_origins p = origins_after p [] tt

pub whole_text_origins : (p : Plan) → Origins p (piece_tokens p.env 0 (items p)) (whole_tokens p)
unfolding whole_tokens
whole_text_origins p = origins_after p (piece_tokens p.env 0 (items p)) (items_other p)
