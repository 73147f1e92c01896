-- Worked cases, by computation from the plan's bytes: those that document 01 marks with a star, and some where a port goes wrong
-- easily. The texts of the second kind are the crate's own.
use Rattle.std.specs.Prelude.{◌≡◌, ℕ, zero, suc, Bool, true, ◌&&◌, List, [], ◌∷◌, ◌++◌, length, ◌==◌}
use Prim.Native.String.{String}
use Rattle.std.specs.Prelude.{refl}
use Rattle.text.specs.Codes.{codes}
use Rattle.codegen.specs.Answer.{Answer, answer, terms_answer}
use Rattle.text.specs.Digits.{digits as text_Digits_digits, decimal as text_Digits_decimal, hexadecimal as text_Digits_hexadecimal, signed as text_Digits_signed}
use Rattle.text.specs.Sink.{view as text_Sink_view, put as text_Sink_put, spaces as text_Sink_spaces}
use Rattle.text.specs.Split.{split as text_Split_split, ended as text_Split_ended, same as text_Split_same, starts_with as text_Split_starts_with}
use Rattle.literal.specs.Literal.{rust_int_literal as literal_Literal_rust_int_literal, literal as literal_Literal_literal, in_range as literal_Literal_in_range, odd as literal_Literal_odd}
use Rattle.literal.specs.Quote.{escaped as literal_Quote_escaped, quoted as literal_Quote_quoted}
use Rattle.plan.specs.Layout.{◌⊛◌, each as plan_Layout_each, only as plan_Layout_only, digits as plan_Layout_digits, decimal_from as plan_Layout_decimal_from, number as plan_Layout_number, unused as plan_Layout_unused, bit as plan_Layout_bit, number_to as plan_Layout_number_to, hex_digits as plan_Layout_hex_digits, hex_from as plan_Layout_hex_from, value as plan_Layout_value, function_kind as plan_Layout_function_kind, list as plan_Layout_list, field as plan_Layout_field, pattern_binding as plan_Layout_pattern_binding, row as plan_Layout_row, options_row as plan_Layout_options_row, by_kind as plan_Layout_by_kind, declared as plan_Layout_declared, type_row as plan_Layout_type_row, variant_row as plan_Layout_variant_row, term_row as plan_Layout_term_row, binding_row as plan_Layout_binding_row, block_row as plan_Layout_block_row, below as plan_Layout_below, nested as plan_Layout_nested, table as plan_Layout_table, generated_term as plan_Layout_generated_term, generated_terms as plan_Layout_generated_terms, environment as plan_Layout_environment, plan_of as plan_Layout_plan_of, read as plan_Layout_read}
use Rattle.plan.specs.Lookup.{variants_of as plan_Lookup_variants_of}
use Rattle.plan.specs.Refusal.{every as plan_Refusal_every, fits_length as plan_Refusal_fits_length, bytes_allowed as plan_Refusal_bytes_allowed, environment_most as plan_Refusal_environment_most, generated_most as plan_Refusal_generated_most, within_most as plan_Refusal_within_most, type_refers as plan_Refusal_type_refers, variant_refers as plan_Refusal_variant_refers, term_refers as plan_Refusal_term_refers, binding_refers as plan_Refusal_binding_refers, constraint_refers as plan_Refusal_constraint_refers, control_flow_refers as plan_Refusal_control_flow_refers, row_refers as plan_Refusal_row_refers, generated_refers as plan_Refusal_generated_refers, all_exist as plan_Refusal_all_exist, source_count as plan_Refusal_source_count, pattern_count as plan_Refusal_pattern_count, arm_length_fits as plan_Refusal_arm_length_fits, lengths_fit as plan_Refusal_lengths_fit, sources_below as plan_Refusal_sources_below, arguments_distinct as plan_Refusal_arguments_distinct, sources_lower as plan_Refusal_sources_lower, returns_last as plan_Refusal_returns_last, returns_fit as plan_Refusal_returns_fit, matches_armed as plan_Refusal_matches_armed, matches_have_arms as plan_Refusal_matches_have_arms, loop_fits as plan_Refusal_loop_fits, loops_iterate as plan_Refusal_loops_iterate, judged as plan_Refusal_judged, outcome as plan_Refusal_outcome, refusal as plan_Refusal_refusal}
use Rattle.plan.specs.Row.{level as plan_Row_level}
use Rattle.codegen.specs.Answer.{whole_text as codegen_Answer_whole_text, answer_of as codegen_Answer_answer_of}
use Rattle.codegen.specs.Block.{arm_count as codegen_Block_arm_count, block_weight as codegen_Block_block_weight, buffer as codegen_Block_buffer, iter_return as codegen_Block_iter_return, let_head as codegen_Block_let_head, let_line as codegen_Block_let_line, lets as codegen_Block_lets, one_arm_head as codegen_Block_one_arm_head, match_head as codegen_Block_match_head, opening as codegen_Block_opening, nothing_written as codegen_Block_nothing_written, matching as codegen_Block_matching, equal_head as codegen_Block_equal_head, loop_head as codegen_Block_loop_head, return_line as codegen_Block_return_line, log_lines as codegen_Block_log_lines, returning as codegen_Block_returning, emit_check as codegen_Block_emit_check, emit_arm as codegen_Block_emit_arm, own as codegen_Block_own, closures as codegen_Block_closures, place as codegen_Block_place, end_closure as codegen_Block_end_closure, catchall as codegen_Block_catchall, end_block as codegen_Block_end_block, closing as codegen_Block_closing, left as codegen_Block_left, restored as codegen_Block_restored, pushed as codegen_Block_pushed, open_closure as codegen_Block_open_closure, row_parts as codegen_Block_row_parts, after as codegen_Block_after, here as codegen_Block_here, splits_here as codegen_Block_splits_here, next as codegen_Block_next, written as codegen_Block_written, walk as codegen_Block_walk, line_bytes as codegen_Block_line_bytes, edge_bytes as codegen_Block_edge_bytes, what_bytes as codegen_Block_what_bytes, part_bytes as codegen_Block_part_bytes, text_of as codegen_Block_text_of, odds_of as codegen_Block_odds_of}
use Rattle.codegen.specs.Expr.{passed as codegen_Expr_passed, parameters as codegen_Expr_parameters, returns_ref as codegen_Expr_returns_ref, call as codegen_Expr_call, field_lines as codegen_Expr_field_lines, extract_fields as codegen_Expr_extract_fields, emit_binding as codegen_Expr_emit_binding, emit_below as codegen_Expr_emit_below, emit_expr as codegen_Expr_emit_expr, emit_source as codegen_Expr_emit_source}
use Rattle.codegen.specs.Items.{join as codegen_Items_join, file_lines as codegen_Items_file_lines, generate_header as codegen_Items_generate_header, type_name as codegen_Items_type_name, type_names as codegen_Items_type_names, ret_tuple as codegen_Items_ret_tuple, sig_params as codegen_Items_sig_params, generate_trait_sig as codegen_Items_generate_trait_sig, term_sigs as codegen_Items_term_sigs, generate_ctx_trait as codegen_Items_generate_ctx_trait, named_fields as codegen_Items_named_fields, tuple_fields as codegen_Items_tuple_fields, generate_fields as codegen_Items_generate_fields, all_unit as codegen_Items_all_unit, type_head as codegen_Items_type_head, variant_lines as codegen_Items_variant_lines, enum_type as codegen_Items_enum_type, struct_type as codegen_Items_struct_type, internal_type as codegen_Items_internal_type, generate_internal_types as codegen_Items_generate_internal_types, items as codegen_Items_items}
use Rattle.codegen.specs.Pattern.{bind_all as codegen_Pattern_bind_all, field_patterns as codegen_Pattern_field_patterns, skipped_some as codegen_Pattern_skipped_some, emit_fields as codegen_Pattern_emit_fields, inside_some as codegen_Pattern_inside_some, emit_constraint as codegen_Pattern_emit_constraint}
use Rattle.codegen.specs.Piece.{indent as codegen_Piece_indent, type_text as codegen_Piece_type_text, bytes as codegen_Piece_bytes, render as codegen_Piece_render, odd_piece as codegen_Piece_odd_piece, odd_pieces as codegen_Piece_odd_pieces, break_piece as codegen_Piece_break_piece, breaks as codegen_Piece_breaks}
use Rattle.codegen.specs.ReturnKind.{by_return_kind as codegen_ReturnKind_by_return_kind}
use Rattle.codegen.specs.Sema.{is_ref_type as codegen_Sema_is_ref_type, int_type as codegen_Sema_int_type, field_name as codegen_Sema_field_name, field_type as codegen_Sema_field_type, func_name_of as codegen_Sema_func_name_of, full_name_of as codegen_Sema_full_name_of, is_external as codegen_Sema_is_external, extractor_sig as codegen_Sema_extractor_sig, constructor_sig as codegen_Sema_constructor_sig}
use Rattle.codegen.specs.Terms.{rowless as codegen_Terms_rowless, mark_argument as codegen_Terms_mark_argument, argument_refs as codegen_Terms_argument_refs, argument_lines as codegen_Terms_argument_lines, signature as codegen_Terms_signature, ends_in_return as codegen_Terms_ends_in_return, last_expr as codegen_Terms_last_expr, term_end as codegen_Terms_term_end, body_of as codegen_Terms_body_of, start as codegen_Terms_start, splits as codegen_Terms_splits, term_parts as codegen_Terms_term_parts, all_parts as codegen_Terms_all_parts, terms_text as codegen_Terms_terms_text, odds as codegen_Terms_odds}
use Rattle.codegen.specs.Writer.{said as codegen_Writer_said}

-- a plan, the odd count and the terms text that the definition gives it
pub record Case : Type 0 where
  pub plan : List ℕ
  pub count : ℕ
  pub text : List ℕ

-- each text with the end of its line
abbrev pub lines : List String → List ℕ
lines [] = []
lines (l ∷ ls) = codes l ++ (10 ∷ lines ls)

abbrev pub repeat : ℕ → List ℕ → List ℕ
repeat zero s = []
repeat (suc n) s = s ++ repeat n s

-- STARRED

-- "Whole case (*)"
abbrev pub worked : Case
worked = record {
  plan =
      lines
      ("nopragmas log split threshold" ∷ "0 0 0 -" ∷ ""
      ∷ "file" ∷ "a.isle" ∷ ""
      ∷ "sym" ∷ "pick" ∷ ""
      ∷ "pos" ∷ "a.isle line 3" ∷ "a.isle line 5" ∷ ""
      ∷ "kind name extern nodebug pos list" ∷ ""
      ∷ "type name shape list" ∷ ""
      ∷ "name pos ret multi partial ctor xtor infallible list" ∷ "0 0 1 0 1 in - 0 1" ∷ ""
      ∷ "term" ∷ "0" ∷ ""
      ∷ "kind a b list" ∷ "arg 0 - -" ∷ "int 1 00000000000000000000000000000007 -" ∷ "some - - 1" ∷ ""
      ∷ "level kind a b list" ∷ "0 match 0 - -" ∷ "1 int 1 00000000000000000000000000000007 -" ∷ "2 return 2 1 -" ∷ "" ∷ []);
  count = 0;
  text =
      lines
      (""
      ∷ "// Generated as internal constructor for term pick."
      ∷ "pub fn constructor_pick<C: Context>("
      ∷ "    ctx: &mut C,"
      ∷ "    arg0: u8,"
      ∷ ") -> Option<u8> {"
      ∷ "    if arg0 == 0x7_u8 {"
      ∷ "        // Rule at a.isle line 5."
      ∷ "        return Some(0x7_u8);"
      ∷ "    }"
      ∷ "    None"
      ∷ "}" ∷ []);
}

-- a constructor that returns a literal: the type's number and the value as in the plan; the literal, and how many are odd
abbrev pub returns : String → String → ℕ → Case
returns int literal count = record {
  plan =
      lines
      ("nopragmas log split threshold" ∷ "0 0 0 -" ∷ ""
      ∷ "file" ∷ ""
      ∷ "sym" ∷ "pick" ∷ ""
      ∷ "pos" ∷ "p" ∷ ""
      ∷ "kind name extern nodebug pos list" ∷ ""
      ∷ "type name shape list" ∷ ""
      ∷ "name pos ret multi partial ctor xtor infallible list" ∷ "0 0 1 0 0 in - 0 -" ∷ ""
      ∷ "term" ∷ "0" ∷ ""
      ∷ "kind a b list" ∷ [])
      ++ (codes int ++ lines (" -" ∷ "" ∷ "level kind a b list" ∷ "0 return 0 0 -" ∷ "" ∷ []));
  count = count;
  text =
      lines
      ("" ∷ "// Generated as internal constructor for term pick."
      ∷ "pub fn constructor_pick<C: Context>("
      ∷ "    ctx: &mut C,"
      ∷ ") -> u8 {"
      ∷ "    // Rule at p." ∷ [])
      ++ (codes "    return " ++ (codes literal ++ lines (";" ∷ "}" ∷ [])));
}

-- "u8 256 is `0x0_u8`, odd; u8 255 is not; i8 255 is `-1_i8`, odd; usize -1 is `0x`, 32 `f`, `_usize`, odd; least i128 is ..;
-- bool type, value 1: `0x1`"
abbrev pub literals : List Case
literals =
    returns "int 1 00000000000000000000000000000100" "0x0_u8" 1
    ∷ returns "int 1 000000000000000000000000000000ff" "0xff_u8" 0
    ∷ returns "int 7 000000000000000000000000000000ff" "-1_i8" 1
    ∷ returns "int 6 ffffffffffffffffffffffffffffffff" "0xffffffffffffffffffffffffffffffff_usize" 1
    ∷ returns "int 11 80000000000000000000000000000000" "-170141183460469231731687303715884105728_i128" 0
    ∷ returns "int 0 00000000000000000000000000000001" "0x1" 0
    ∷ []

-- "text `a"b` quotes as `"a\"b"`"
abbrev pub quoted_text : Case
quoted_text = record {
  plan =
      lines
      ("nopragmas log split threshold" ∷ "0 0 0 -" ∷ ""
      ∷ "file" ∷ ""
      ∷ "sym" ∷ "a\"b" ∷ ""
      ∷ "pos" ∷ "p" ∷ ""
      ∷ "kind name extern nodebug pos list" ∷ ""
      ∷ "type name shape list" ∷ ""
      ∷ "name pos ret multi partial ctor xtor infallible list" ∷ "0 0 1 0 0 in - 0 -" ∷ ""
      ∷ "term" ∷ "0" ∷ ""
      ∷ "kind a b list" ∷ ""
      ∷ "level kind a b list" ∷ "" ∷ []);
  count = 0;
  text =
      lines
      (""
      ∷ "// Generated as internal constructor for term a\"b."
      ∷ "pub fn constructor_a\"b<C: Context>("
      ∷ "    ctx: &mut C,"
      ∷ ") -> u8 {"
      ∷ "    unreachable!(\"no rule matched for term {} at {}; should it be partial?\", \"a\\\"b\", \"p\")"
      ∷ "}" ∷ []);
}

-- an arm whose body is so many returns, in a match with another arm whose body is empty; the threshold as in the plan
abbrev pub weighing : String → ℕ → List ℕ → Case
weighing threshold weight text = record {
  plan =
      codes "nopragmas log split threshold\n0 0 1 "
      ++ (codes threshold
      ++ (lines
      ("" ∷ ""
      ∷ "file" ∷ ""
      ∷ "sym" ∷ "all" ∷ ""
      ∷ "pos" ∷ "p" ∷ ""
      ∷ "kind name extern nodebug pos list" ∷ ""
      ∷ "type name shape list" ∷ ""
      ∷ "name pos ret multi partial ctor xtor infallible list" ∷ "0 0 0 1 0 in - 0 0" ∷ ""
      ∷ "term" ∷ "0" ∷ ""
      ∷ "kind a b list" ∷ "arg 0 - -" ∷ ""
      ∷ "level kind a b list" ∷ "0 match 0 - -" ∷ "1 bool 0 - -" ∷ [])
      ++ (repeat weight (codes "2 return 0 0 -\n") ++ lines ("1 bool 1 - -" ∷ "" ∷ []))));
  count = 0;
  text =
      lines
      ("" ∷ "// Generated as internal constructor for term all."
      ∷ "pub fn constructor_all<C: Context>("
      ∷ "    ctx: &mut C,"
      ∷ "    arg0: bool,"
      ∷ "    returns: &mut (impl Extend<bool> + Length),"
      ∷ ") -> () {"
      ∷ "    match arg0 {"
      ∷ "        false => {" ∷ [])
      ++ (text
      ++ lines
      ("        }"
      ∷ "        true => {"
      ∷ "        }"
      ∷ "        _ => {}"
      ∷ "    }"
      ∷ "}" ∷ []));
}

-- "default: weight 256 doesn't split, 257 does; threshold 0, empty body: no split"
abbrev pub weights : List Case
weights =
    weighing "-" 256 (repeat 256 (lines ("            // Rule at p." ∷ "            returns.extend(Some(arg0));" ∷ "            if returns.len() >= MAX_ISLE_RETURNS { return; }" ∷ [])))
    ∷ weighing "-" 257
    (lines ("            if (|| -> bool {" ∷ [])
    ++ (repeat 257 (lines ("                // Rule at p." ∷ "                returns.extend(Some(arg0));" ∷ "                if returns.len() >= MAX_ISLE_RETURNS { return true; }" ∷ []))
    ++ lines ("                false" ∷ "            }" ∷ "            )() { return; } // __isle_arm_0" ∷ [])))
    ∷ weighing "0" 0 []
    ∷ []

abbrev pub starred : List Case
starred = worked ∷ quoted_text ∷ literals ++ weights

-- WHERE A PORT GOES WRONG EASILY

-- a one-arm `some`: the pattern first, whose binding the source then uses
abbrev pub one_arm_bound : Case
one_arm_bound = record {
  plan =
      lines
      ("nopragmas log split threshold" ∷ "0 0 0 -" ∷ ""
      ∷ "file" ∷ ""
      ∷ "sym" ∷ "pick" ∷ "S" ∷ ""
      ∷ "pos" ∷ "p" ∷ ""
      ∷ "kind name extern nodebug pos list" ∷ "unit 1 0 0 0 -" ∷ ""
      ∷ "type name shape list" ∷ ""
      ∷ "name pos ret multi partial ctor xtor infallible list" ∷ "0 0 13 0 1 in - 0 13" ∷ ""
      ∷ "term" ∷ "0" ∷ ""
      ∷ "kind a b list" ∷ "arg 0 - -" ∷ "matchsome - - 0" ∷ "some - - 1" ∷ ""
      ∷ "level kind a b list" ∷ "0 match 2 - -" ∷ "1 some - - 1" ∷ "2 return 1 0 -" ∷ "" ∷ []);
  count = 0;
  text =
      lines
      (""
      ∷ "// Generated as internal constructor for term pick."
      ∷ "pub fn constructor_pick<C: Context>("
      ∷ "    ctx: &mut C,"
      ∷ "    arg0: &S,"
      ∷ ") -> Option<S> {"
      ∷ "    if let Some(v1) = Some(v1) {"
      ∷ "        // Rule at p."
      ∷ "        return v1;"
      ∷ "    }"
      ∷ "    None"
      ∷ "}" ∷ []);
}

-- the source of a one-arm `some` is a reference only once it is written: the pattern's binding is none
abbrev pub one_arm_unmarked : Case
one_arm_unmarked = record {
  plan =
      lines
      ("nopragmas log split threshold" ∷ "0 0 0 -" ∷ ""
      ∷ "file" ∷ ""
      ∷ "sym" ∷ "pick" ∷ "S" ∷ "mk" ∷ ""
      ∷ "pos" ∷ "p" ∷ ""
      ∷ "kind name extern nodebug pos list" ∷ "unit 1 0 0 0 -" ∷ ""
      ∷ "type name shape list" ∷ ""
      ∷ "name pos ret multi partial ctor xtor infallible list" ∷ "0 0 13 0 1 in - 0 1" ∷ "2 0 13 0 1 2 - 0 1" ∷ ""
      ∷ "term" ∷ "0" ∷ ""
      ∷ "kind a b list" ∷ "arg 0 - -" ∷ "construct 1 - 0" ∷ "matchsome - - 1" ∷ ""
      ∷ "level kind a b list" ∷ "0 match 1 - -" ∷ "1 some - - 2" ∷ "2 return 2 0 -" ∷ "" ∷ []);
  count = 0;
  text =
      lines
      (""
      ∷ "// Generated as internal constructor for term pick."
      ∷ "pub fn constructor_pick<C: Context>("
      ∷ "    ctx: &mut C,"
      ∷ "    arg0: u8,"
      ∷ ") -> Option<S> {"
      ∷ "    if let Some(v2) = &C::mk(ctx, arg0) {"
      ∷ "        // Rule at p."
      ∷ "        return v2;"
      ∷ "    }"
      ∷ "    None"
      ∷ "}" ∷ []);
}

-- with two arms the source comes first, and the binding is a reference
abbrev pub two_arms_marked : Case
two_arms_marked = record {
  plan =
      lines
      ("nopragmas log split threshold" ∷ "0 0 0 -" ∷ ""
      ∷ "file" ∷ ""
      ∷ "sym" ∷ "pick" ∷ "S" ∷ "mk" ∷ ""
      ∷ "pos" ∷ "p" ∷ ""
      ∷ "kind name extern nodebug pos list" ∷ "unit 1 0 0 0 -" ∷ ""
      ∷ "type name shape list" ∷ ""
      ∷ "name pos ret multi partial ctor xtor infallible list" ∷ "0 0 13 0 1 in - 0 1" ∷ "2 0 13 0 1 2 - 0 1" ∷ ""
      ∷ "term" ∷ "0" ∷ ""
      ∷ "kind a b list" ∷ "arg 0 - -" ∷ "construct 1 - 0" ∷ "matchsome - - 1" ∷ ""
      ∷ "level kind a b list" ∷ "0 match 1 - -" ∷ "1 some - - 2" ∷ "2 return 2 0 -" ∷ "1 some - - _" ∷ "" ∷ []);
  count = 0;
  text =
      lines
      (""
      ∷ "// Generated as internal constructor for term pick."
      ∷ "pub fn constructor_pick<C: Context>("
      ∷ "    ctx: &mut C,"
      ∷ "    arg0: u8,"
      ∷ ") -> Option<S> {"
      ∷ "    match &C::mk(ctx, arg0) {"
      ∷ "        Some(v2) => {"
      ∷ "            // Rule at p."
      ∷ "            return v2.clone();"
      ∷ "        }"
      ∷ "        Some(_) => {"
      ∷ "        }"
      ∷ "        _ => {}"
      ∷ "    }"
      ∷ "    None"
      ∷ "}" ∷ []);
}

-- at a scope's end bound marks go back, and marks of references stay: the second `mk` is written again, and cloned
abbrev pub scope_end : Case
scope_end = record {
  plan =
      lines
      ("nopragmas log split threshold" ∷ "0 0 0 -" ∷ ""
      ∷ "file" ∷ ""
      ∷ "sym" ∷ "pick" ∷ "S" ∷ "mk" ∷ "use" ∷ ""
      ∷ "pos" ∷ "p" ∷ "q" ∷ ""
      ∷ "kind name extern nodebug pos list" ∷ "unit 1 0 0 0 -" ∷ ""
      ∷ "type name shape list" ∷ ""
      ∷ "name pos ret multi partial ctor xtor infallible list" ∷ "0 0 1 0 1 in - 0 1" ∷ "2 0 13 0 0 2 - 0 -" ∷ "3 0 1 0 0 3 - 0 1" ∷ ""
      ∷ "term" ∷ "0" ∷ ""
      ∷ "kind a b list" ∷ "arg 0 - -" ∷ "construct 1 - -" ∷ "construct 2 - 1" ∷ ""
      ∷ "level kind a b list" ∷ "0 equal 0 0 -" ∷ "1 return 2 0 1" ∷ "0 return 2 1 -" ∷ "" ∷ []);
  count = 0;
  text =
      lines
      (""
      ∷ "// Generated as internal constructor for term pick."
      ∷ "pub fn constructor_pick<C: Context>("
      ∷ "    ctx: &mut C,"
      ∷ "    arg0: u8,"
      ∷ ") -> Option<u8> {"
      ∷ "    if arg0 == arg0 {"
      ∷ "        let v1 = &C::mk(ctx);"
      ∷ "        // Rule at p."
      ∷ "        return C::use(ctx, v1.clone());"
      ∷ "    }"
      ∷ "    // Rule at q."
      ∷ "    return C::use(ctx, &C::mk(ctx).clone());"
      ∷ "}" ∷ []);
}

-- closures in a closure, and a term generated twice: numbers in opening order, anew for each block table
abbrev pub closure_numbers : Case
closure_numbers = record {
  plan =
      lines
      ("nopragmas log split threshold" ∷ "0 0 1 0" ∷ ""
      ∷ "file" ∷ ""
      ∷ "sym" ∷ "all" ∷ ""
      ∷ "pos" ∷ "p" ∷ "q" ∷ ""
      ∷ "kind name extern nodebug pos list" ∷ ""
      ∷ "type name shape list" ∷ ""
      ∷ "name pos ret multi partial ctor xtor infallible list" ∷ "0 0 0 1 0 in - 0 0" ∷ ""
      ∷ "term" ∷ "0" ∷ ""
      ∷ "kind a b list" ∷ "arg 0 - -" ∷ ""
      ∷ "level kind a b list" ∷ "0 match 0 - -" ∷ "1 bool 0 - -" ∷ "2 match 0 - -" ∷ "3 bool 0 - -" ∷ "4 return 0 0 -" ∷ "3 bool 1 - -" ∷ "4 return 0 0 -" ∷ "1 bool 1 - -" ∷ "2 return 0 1 -" ∷ ""
      ∷ "term" ∷ "0" ∷ ""
      ∷ "kind a b list" ∷ "arg 0 - -" ∷ ""
      ∷ "level kind a b list" ∷ "0 match 0 - -" ∷ "1 bool 1 - -" ∷ "2 return 0 1 -" ∷ "1 bool 0 - -" ∷ "" ∷ []);
  count = 0;
  text =
      lines
      (""
      ∷ "// Generated as internal constructor for term all."
      ∷ "pub fn constructor_all<C: Context>("
      ∷ "    ctx: &mut C,"
      ∷ "    arg0: bool,"
      ∷ "    returns: &mut (impl Extend<bool> + Length),"
      ∷ ") -> () {"
      ∷ "    match arg0 {"
      ∷ "        false => {"
      ∷ "            if (|| -> bool {"
      ∷ "                match arg0 {"
      ∷ "                    false => {"
      ∷ "                        if (|| -> bool {"
      ∷ "                            // Rule at p."
      ∷ "                            returns.extend(Some(arg0));"
      ∷ "                            if returns.len() >= MAX_ISLE_RETURNS { return true; }"
      ∷ "                            false"
      ∷ "                        }"
      ∷ "                        )() { return true; } // __isle_arm_1"
      ∷ "                    }"
      ∷ "                    true => {"
      ∷ "                        if (|| -> bool {"
      ∷ "                            // Rule at p."
      ∷ "                            returns.extend(Some(arg0));"
      ∷ "                            if returns.len() >= MAX_ISLE_RETURNS { return true; }"
      ∷ "                            false"
      ∷ "                        }"
      ∷ "                        )() { return true; } // __isle_arm_2"
      ∷ "                    }"
      ∷ "                    _ => {}"
      ∷ "                }"
      ∷ "                false"
      ∷ "            }"
      ∷ "            )() { return; } // __isle_arm_0"
      ∷ "        }"
      ∷ "        true => {"
      ∷ "            if (|| -> bool {"
      ∷ "                // Rule at q."
      ∷ "                returns.extend(Some(arg0));"
      ∷ "                if returns.len() >= MAX_ISLE_RETURNS { return true; }"
      ∷ "                false"
      ∷ "            }"
      ∷ "            )() { return; } // __isle_arm_3"
      ∷ "        }"
      ∷ "        _ => {}"
      ∷ "    }"
      ∷ "}"
      ∷ ""
      ∷ "// Generated as internal constructor for term all."
      ∷ "pub fn constructor_all<C: Context>("
      ∷ "    ctx: &mut C,"
      ∷ "    arg0: bool,"
      ∷ "    returns: &mut (impl Extend<bool> + Length),"
      ∷ ") -> () {"
      ∷ "    match arg0 {"
      ∷ "        true => {"
      ∷ "            if (|| -> bool {"
      ∷ "                // Rule at q."
      ∷ "                returns.extend(Some(arg0));"
      ∷ "                if returns.len() >= MAX_ISLE_RETURNS { return true; }"
      ∷ "                false"
      ∷ "            }"
      ∷ "            )() { return; } // __isle_arm_0"
      ∷ "        }"
      ∷ "        false => {"
      ∷ "        }"
      ∷ "        _ => {}"
      ∷ "    }"
      ∷ "}" ∷ []);
}

-- a match of one arm has no closure, whatever its weight
abbrev pub one_arm_no_closure : Case
one_arm_no_closure = record {
  plan =
      lines
      ("nopragmas log split threshold" ∷ "0 0 1 0" ∷ ""
      ∷ "file" ∷ ""
      ∷ "sym" ∷ "all" ∷ ""
      ∷ "pos" ∷ "p" ∷ ""
      ∷ "kind name extern nodebug pos list" ∷ ""
      ∷ "type name shape list" ∷ ""
      ∷ "name pos ret multi partial ctor xtor infallible list" ∷ "0 0 0 1 0 in - 0 0" ∷ ""
      ∷ "term" ∷ "0" ∷ ""
      ∷ "kind a b list" ∷ "arg 0 - -" ∷ ""
      ∷ "level kind a b list" ∷ "0 match 0 - -" ∷ "1 bool 1 - -" ∷ "2 return 0 0 -" ∷ "" ∷ []);
  count = 0;
  text =
      lines
      (""
      ∷ "// Generated as internal constructor for term all."
      ∷ "pub fn constructor_all<C: Context>("
      ∷ "    ctx: &mut C,"
      ∷ "    arg0: bool,"
      ∷ "    returns: &mut (impl Extend<bool> + Length),"
      ∷ ") -> () {"
      ∷ "    if arg0 == true {"
      ∷ "        // Rule at p."
      ∷ "        returns.extend(Some(arg0));"
      ∷ "        if returns.len() >= MAX_ISLE_RETURNS { return; }"
      ∷ "    }"
      ∷ "}" ∷ []);
}

-- a weight counts steps and no arms: 3 is not more than the threshold
abbrev pub weight_of_steps : Case
weight_of_steps = record {
  plan =
      lines
      ("nopragmas log split threshold" ∷ "0 0 1 3" ∷ ""
      ∷ "file" ∷ ""
      ∷ "sym" ∷ "all" ∷ ""
      ∷ "pos" ∷ "p" ∷ ""
      ∷ "kind name extern nodebug pos list" ∷ ""
      ∷ "type name shape list" ∷ ""
      ∷ "name pos ret multi partial ctor xtor infallible list" ∷ "0 0 0 1 0 in - 0 0" ∷ ""
      ∷ "term" ∷ "0" ∷ ""
      ∷ "kind a b list" ∷ "arg 0 - -" ∷ ""
      ∷ "level kind a b list" ∷ "0 match 0 - -" ∷ "1 bool 0 - -" ∷ "2 match 0 - -" ∷ "3 bool 0 - -" ∷ "4 return 0 0 -" ∷ "3 bool 1 - -" ∷ "4 return 0 0 -" ∷ "1 bool 1 - -" ∷ "" ∷ []);
  count = 0;
  text =
      lines
      (""
      ∷ "// Generated as internal constructor for term all."
      ∷ "pub fn constructor_all<C: Context>("
      ∷ "    ctx: &mut C,"
      ∷ "    arg0: bool,"
      ∷ "    returns: &mut (impl Extend<bool> + Length),"
      ∷ ") -> () {"
      ∷ "    match arg0 {"
      ∷ "        false => {"
      ∷ "            match arg0 {"
      ∷ "                false => {"
      ∷ "                    // Rule at p."
      ∷ "                    returns.extend(Some(arg0));"
      ∷ "                    if returns.len() >= MAX_ISLE_RETURNS { return; }"
      ∷ "                }"
      ∷ "                true => {"
      ∷ "                    // Rule at p."
      ∷ "                    returns.extend(Some(arg0));"
      ∷ "                    if returns.len() >= MAX_ISLE_RETURNS { return; }"
      ∷ "                }"
      ∷ "                _ => {}"
      ∷ "            }"
      ∷ "        }"
      ∷ "        true => {"
      ∷ "        }"
      ∷ "        _ => {}"
      ∷ "    }"
      ∷ "}" ∷ []);
}

-- a parameter is asked about before it is written: it is no reference yet, and gets an `&`
abbrev pub parameter_asked_first : Case
parameter_asked_first = record {
  plan =
      lines
      ("nopragmas log split threshold" ∷ "0 0 0 -" ∷ ""
      ∷ "file" ∷ ""
      ∷ "sym" ∷ "pick" ∷ "S" ∷ "mk" ∷ "wrap" ∷ ""
      ∷ "pos" ∷ "p" ∷ ""
      ∷ "kind name extern nodebug pos list" ∷ "unit 1 0 0 0 -" ∷ ""
      ∷ "type name shape list" ∷ ""
      ∷ "name pos ret multi partial ctor xtor infallible list" ∷ "0 0 13 0 0 in - 0 1" ∷ "2 0 13 0 0 2 - 0 1" ∷ "3 0 13 0 0 3 - 0 13" ∷ ""
      ∷ "term" ∷ "0" ∷ ""
      ∷ "kind a b list" ∷ "arg 0 - -" ∷ "construct 1 - 0" ∷ "construct 2 - 1" ∷ ""
      ∷ "level kind a b list" ∷ "0 return 2 0 -" ∷ "" ∷ []);
  count = 0;
  text =
      lines
      (""
      ∷ "// Generated as internal constructor for term pick."
      ∷ "pub fn constructor_pick<C: Context>("
      ∷ "    ctx: &mut C,"
      ∷ "    arg0: u8,"
      ∷ ") -> S {"
      ∷ "    // Rule at p."
      ∷ "    return &C::wrap(ctx, &&C::mk(ctx, arg0)).clone();"
      ∷ "}" ∷ []);
}

-- each literal is of its own row; the log has the term's name and the rule's position, the last line the declared position
abbrev pub names_and_positions : Case
names_and_positions = record {
  plan =
      lines
      ("nopragmas log split threshold" ∷ "0 1 0 -" ∷ ""
      ∷ "file" ∷ ""
      ∷ "sym" ∷ "other" ∷ "pick" ∷ ""
      ∷ "pos" ∷ "p" ∷ "q" ∷ "r" ∷ ""
      ∷ "kind name extern nodebug pos list" ∷ ""
      ∷ "type name shape list" ∷ ""
      ∷ "name pos ret multi partial ctor xtor infallible list" ∷ "1 1 2 0 0 in - 0 1" ∷ ""
      ∷ "term" ∷ "0" ∷ ""
      ∷ "kind a b list" ∷ "arg 0 - -" ∷ "int 2 00000000000000000000000000000003 -" ∷ "int 1 00000000000000000000000000000004 -" ∷ ""
      ∷ "level kind a b list" ∷ "0 match 0 - -" ∷ "1 int 1 00000000000000000000000000000005 -" ∷ "2 equal 0 2 -" ∷ "3 return 1 2 -" ∷ "" ∷ []);
  count = 0;
  text =
      lines
      (""
      ∷ "// Generated as internal constructor for term pick."
      ∷ "pub fn constructor_pick<C: Context>("
      ∷ "    ctx: &mut C,"
      ∷ "    arg0: u8,"
      ∷ ") -> u16 {"
      ∷ "    if arg0 == 0x5_u8 {"
      ∷ "        if arg0 == 0x4_u8 {"
      ∷ "            // Rule at r."
      ∷ "            log::debug!(\"ISLE {} {}\", \"pick\", \"r\");"
      ∷ "            return 0x3_u16;"
      ∷ "        }"
      ∷ "    }"
      ∷ "    unreachable!(\"no rule matched for term {} at {}; should it be partial?\", \"pick\", \"q\")"
      ∷ "}" ∷ []);
}

abbrev pub pitfalls : List Case
pitfalls = one_arm_bound ∷ one_arm_unmarked ∷ two_arms_marked ∷ scope_end ∷ closure_numbers ∷ one_arm_no_closure ∷ weight_of_steps ∷ parameter_asked_first ∷ names_and_positions ∷ []

-- THE THEOREM

unfoldable pub agrees : Case → Answer → Bool
agrees c a = a.number == 0 && (a.length == length c.text && (a.count == c.count && text_Split_same a.text c.text))

-- every case is answered as the table says
unfoldable pub all_agree : List Case → Bool
all_agree [] = true
all_agree (c ∷ cs) = agrees c (terms_answer c.plan 65536) && all_agree cs

pub worked_cases : all_agree (starred ++ pitfalls) ≡ true
unfolding agrees all_agree text_Digits_digits text_Digits_decimal text_Digits_hexadecimal text_Digits_signed text_Sink_view text_Sink_put text_Sink_spaces text_Split_split text_Split_ended text_Split_same text_Split_starts_with literal_Literal_rust_int_literal literal_Literal_literal literal_Literal_in_range literal_Literal_odd literal_Quote_escaped literal_Quote_quoted ◌⊛◌ plan_Layout_each plan_Layout_only plan_Layout_digits plan_Layout_decimal_from plan_Layout_number plan_Layout_unused plan_Layout_bit plan_Layout_number_to plan_Layout_hex_digits plan_Layout_hex_from plan_Layout_value plan_Layout_function_kind plan_Layout_list plan_Layout_field plan_Layout_pattern_binding plan_Layout_row plan_Layout_options_row plan_Layout_by_kind plan_Layout_declared plan_Layout_type_row plan_Layout_variant_row plan_Layout_term_row plan_Layout_binding_row plan_Layout_block_row plan_Layout_below plan_Layout_nested plan_Layout_table plan_Layout_generated_term plan_Layout_generated_terms plan_Layout_environment plan_Layout_plan_of plan_Layout_read plan_Lookup_variants_of plan_Refusal_every plan_Refusal_fits_length plan_Refusal_bytes_allowed plan_Refusal_environment_most plan_Refusal_generated_most plan_Refusal_within_most plan_Refusal_type_refers plan_Refusal_variant_refers plan_Refusal_term_refers plan_Refusal_binding_refers plan_Refusal_constraint_refers plan_Refusal_control_flow_refers plan_Refusal_row_refers plan_Refusal_generated_refers plan_Refusal_all_exist plan_Refusal_source_count plan_Refusal_pattern_count plan_Refusal_arm_length_fits plan_Refusal_lengths_fit plan_Refusal_sources_below plan_Refusal_arguments_distinct plan_Refusal_sources_lower plan_Refusal_returns_last plan_Refusal_returns_fit plan_Refusal_matches_armed plan_Refusal_matches_have_arms plan_Refusal_loop_fits plan_Refusal_loops_iterate plan_Refusal_judged plan_Refusal_outcome plan_Refusal_refusal plan_Row_level codegen_Answer_whole_text codegen_Answer_answer_of answer terms_answer codegen_Block_arm_count codegen_Block_block_weight codegen_Block_buffer codegen_Block_iter_return codegen_Block_let_head codegen_Block_let_line codegen_Block_lets codegen_Block_one_arm_head codegen_Block_match_head codegen_Block_opening codegen_Block_nothing_written codegen_Block_matching codegen_Block_equal_head codegen_Block_loop_head codegen_Block_return_line codegen_Block_log_lines codegen_Block_returning codegen_Block_emit_check codegen_Block_emit_arm codegen_Block_own codegen_Block_closures codegen_Block_place codegen_Block_end_closure codegen_Block_catchall codegen_Block_end_block codegen_Block_closing codegen_Block_left codegen_Block_restored codegen_Block_pushed codegen_Block_open_closure codegen_Block_row_parts codegen_Block_after codegen_Block_here codegen_Block_splits_here codegen_Block_next codegen_Block_written codegen_Block_walk codegen_Block_line_bytes codegen_Block_edge_bytes codegen_Block_what_bytes codegen_Block_part_bytes codegen_Block_text_of codegen_Block_odds_of codegen_Expr_passed codegen_Expr_parameters codegen_Expr_returns_ref codegen_Expr_call codegen_Expr_field_lines codegen_Expr_extract_fields codegen_Expr_emit_binding codegen_Expr_emit_below codegen_Expr_emit_expr codegen_Expr_emit_source codegen_Items_join codegen_Items_file_lines codegen_Items_generate_header codegen_Items_type_name codegen_Items_type_names codegen_Items_ret_tuple codegen_Items_sig_params codegen_Items_generate_trait_sig codegen_Items_term_sigs codegen_Items_generate_ctx_trait codegen_Items_named_fields codegen_Items_tuple_fields codegen_Items_generate_fields codegen_Items_all_unit codegen_Items_type_head codegen_Items_variant_lines codegen_Items_enum_type codegen_Items_struct_type codegen_Items_internal_type codegen_Items_generate_internal_types codegen_Items_items codegen_Pattern_bind_all codegen_Pattern_field_patterns codegen_Pattern_skipped_some codegen_Pattern_emit_fields codegen_Pattern_inside_some codegen_Pattern_emit_constraint codegen_Piece_indent codegen_Piece_type_text codegen_Piece_bytes codegen_Piece_render codegen_Piece_odd_piece codegen_Piece_odd_pieces codegen_Piece_break_piece codegen_Piece_breaks codegen_ReturnKind_by_return_kind codegen_Sema_is_ref_type codegen_Sema_int_type codegen_Sema_field_name codegen_Sema_field_type codegen_Sema_func_name_of codegen_Sema_full_name_of codegen_Sema_is_external codegen_Sema_extractor_sig codegen_Sema_constructor_sig codegen_Terms_rowless codegen_Terms_mark_argument codegen_Terms_argument_refs codegen_Terms_argument_lines codegen_Terms_signature codegen_Terms_ends_in_return codegen_Terms_last_expr codegen_Terms_term_end codegen_Terms_body_of codegen_Terms_start codegen_Terms_splits codegen_Terms_term_parts codegen_Terms_all_parts codegen_Terms_terms_text codegen_Terms_odds codegen_Writer_said
worked_cases = refl
