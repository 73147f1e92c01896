-- What Enclosing.antt says, computed for the worked case `closure-numbers`: a definition of the text that puts a closure's lines
-- elsewhere is refused here. The law for every plan is `closure-encloses-body` of crate splitting.
use Rattle.std.specs.Prelude.{refl}
use Rattle.std.specs.Prelude.{List, [], ◌∷◌, take, drop}
use Rattle.text.specs.Split.{split as text_Split_split, ended as text_Split_ended, same as text_Split_same, starts_with as text_Split_starts_with}
use Rattle.plan.specs.Layout.{◌⊛◌, each as plan_Layout_each, only as plan_Layout_only, digits as plan_Layout_digits, decimal_from as plan_Layout_decimal_from, number as plan_Layout_number, unused as plan_Layout_unused, bit as plan_Layout_bit, number_to as plan_Layout_number_to, hex_digits as plan_Layout_hex_digits, hex_from as plan_Layout_hex_from, value as plan_Layout_value, function_kind as plan_Layout_function_kind, list as plan_Layout_list, field as plan_Layout_field, pattern_binding as plan_Layout_pattern_binding, row as plan_Layout_row, options_row as plan_Layout_options_row, by_kind as plan_Layout_by_kind, declared as plan_Layout_declared, type_row as plan_Layout_type_row, variant_row as plan_Layout_variant_row, term_row as plan_Layout_term_row, binding_row as plan_Layout_binding_row, block_row as plan_Layout_block_row, below as plan_Layout_below, nested as plan_Layout_nested, table as plan_Layout_table, generated_term as plan_Layout_generated_term, generated_terms as plan_Layout_generated_terms, environment as plan_Layout_environment, plan_of as plan_Layout_plan_of, read as plan_Layout_read}
use Rattle.plan.specs.Lookup.{variants_of as plan_Lookup_variants_of}
use Rattle.plan.specs.Refusal.{every as plan_Refusal_every, fits_length as plan_Refusal_fits_length, bytes_allowed as plan_Refusal_bytes_allowed, environment_most as plan_Refusal_environment_most, generated_most as plan_Refusal_generated_most, within_most as plan_Refusal_within_most, type_refers as plan_Refusal_type_refers, variant_refers as plan_Refusal_variant_refers, term_refers as plan_Refusal_term_refers, binding_refers as plan_Refusal_binding_refers, constraint_refers as plan_Refusal_constraint_refers, control_flow_refers as plan_Refusal_control_flow_refers, row_refers as plan_Refusal_row_refers, generated_refers as plan_Refusal_generated_refers, all_exist as plan_Refusal_all_exist, source_count as plan_Refusal_source_count, pattern_count as plan_Refusal_pattern_count, arm_length_fits as plan_Refusal_arm_length_fits, lengths_fit as plan_Refusal_lengths_fit, sources_below as plan_Refusal_sources_below, arguments_distinct as plan_Refusal_arguments_distinct, sources_lower as plan_Refusal_sources_lower, returns_last as plan_Refusal_returns_last, returns_fit as plan_Refusal_returns_fit, matches_armed as plan_Refusal_matches_armed, matches_have_arms as plan_Refusal_matches_have_arms, loop_fits as plan_Refusal_loop_fits, loops_iterate as plan_Refusal_loops_iterate, judged as plan_Refusal_judged, outcome as plan_Refusal_outcome}
use Rattle.plan.specs.Row.{level as plan_Row_level}
use Rattle.codegen.specs.Block.{arm_count as codegen_Block_arm_count, block_weight as codegen_Block_block_weight, buffer as codegen_Block_buffer, iter_return as codegen_Block_iter_return, let_head as codegen_Block_let_head, let_line as codegen_Block_let_line, lets as codegen_Block_lets, one_arm_head as codegen_Block_one_arm_head, match_head as codegen_Block_match_head, opening as codegen_Block_opening, nothing_written as codegen_Block_nothing_written, matching as codegen_Block_matching, equal_head as codegen_Block_equal_head, loop_head as codegen_Block_loop_head, return_line as codegen_Block_return_line, log_lines as codegen_Block_log_lines, returning as codegen_Block_returning, emit_check as codegen_Block_emit_check, emit_arm as codegen_Block_emit_arm, own as codegen_Block_own, closures as codegen_Block_closures, place as codegen_Block_place, end_closure as codegen_Block_end_closure, catchall as codegen_Block_catchall, end_block as codegen_Block_end_block, closing as codegen_Block_closing, left as codegen_Block_left, restored as codegen_Block_restored, pushed as codegen_Block_pushed, open_closure as codegen_Block_open_closure, row_parts as codegen_Block_row_parts, after as codegen_Block_after, here as codegen_Block_here, splits_here as codegen_Block_splits_here, next as codegen_Block_next, written as codegen_Block_written, walk as codegen_Block_walk}
use Rattle.codegen.specs.Expr.{passed as codegen_Expr_passed, parameters as codegen_Expr_parameters, returns_ref as codegen_Expr_returns_ref, call as codegen_Expr_call, field_lines as codegen_Expr_field_lines, extract_fields as codegen_Expr_extract_fields, emit_binding as codegen_Expr_emit_binding, emit_below as codegen_Expr_emit_below, emit_expr as codegen_Expr_emit_expr, emit_source as codegen_Expr_emit_source}
use Rattle.codegen.specs.Pattern.{bind_all as codegen_Pattern_bind_all, field_patterns as codegen_Pattern_field_patterns, skipped_some as codegen_Pattern_skipped_some, emit_fields as codegen_Pattern_emit_fields, inside_some as codegen_Pattern_inside_some, emit_constraint as codegen_Pattern_emit_constraint}
use Rattle.codegen.specs.ReturnKind.{by_return_kind as codegen_ReturnKind_by_return_kind}
use Rattle.codegen.specs.Sema.{is_ref_type as codegen_Sema_is_ref_type, int_type as codegen_Sema_int_type, field_name as codegen_Sema_field_name, field_type as codegen_Sema_field_type, func_name_of as codegen_Sema_func_name_of, full_name_of as codegen_Sema_full_name_of, is_external as codegen_Sema_is_external, extractor_sig as codegen_Sema_extractor_sig, constructor_sig as codegen_Sema_constructor_sig}
use Rattle.codegen.specs.Terms.{rowless as codegen_Terms_rowless, mark_argument as codegen_Terms_mark_argument, argument_refs as codegen_Terms_argument_refs, argument_lines as codegen_Terms_argument_lines, signature as codegen_Terms_signature, ends_in_return as codegen_Terms_ends_in_return, last_expr as codegen_Terms_last_expr, term_end as codegen_Terms_term_end, body_of as codegen_Terms_body_of, start as codegen_Terms_start, splits as codegen_Terms_splits, term_parts as codegen_Terms_term_parts}
use Rattle.codegen.specs.Writer.{said as codegen_Writer_said}
use Rattle.plan.specs.Refusal.{Outcome, refused, accepted, outcome}
use Rattle.plan.specs.Plan.{Options, Environment, Generated}
use Rattle.codegen.specs.Block.{Part}
use Rattle.codegen.specs.Terms.{term_parts}
use Rattle.codegen.specs.Enclosing.{among, parts_among, Encloses}
use Rattle.codegen.specs.Cases.{closure_numbers}

-- the parts of the first block table
abbrev pub first_of : Options → Environment → List Generated → List Part
first_of o e [] = []
first_of o e (g ∷ gs) = term_parts o e g

unfoldable pub first_parts : Outcome → List Part
first_parts (refused n) = []
first_parts (accepted p) = first_of p.options p.env p.generated

abbrev pub case_parts : List Part
case_parts = first_parts (outcome closure_numbers.plan)

-- row 1 has closure 0, and five rows are below it: nine parts before its first line, 21 inside
pub worked_enclosure : Encloses 1 0 5 case_parts
unfolding first_parts among parts_among text_Split_split text_Split_ended text_Split_same text_Split_starts_with ◌⊛◌ plan_Layout_each plan_Layout_only plan_Layout_digits plan_Layout_decimal_from plan_Layout_number plan_Layout_unused plan_Layout_bit plan_Layout_number_to plan_Layout_hex_digits plan_Layout_hex_from plan_Layout_value plan_Layout_function_kind plan_Layout_list plan_Layout_field plan_Layout_pattern_binding plan_Layout_row plan_Layout_options_row plan_Layout_by_kind plan_Layout_declared plan_Layout_type_row plan_Layout_variant_row plan_Layout_term_row plan_Layout_binding_row plan_Layout_block_row plan_Layout_below plan_Layout_nested plan_Layout_table plan_Layout_generated_term plan_Layout_generated_terms plan_Layout_environment plan_Layout_plan_of plan_Layout_read plan_Lookup_variants_of plan_Refusal_every plan_Refusal_fits_length plan_Refusal_bytes_allowed plan_Refusal_environment_most plan_Refusal_generated_most plan_Refusal_within_most plan_Refusal_type_refers plan_Refusal_variant_refers plan_Refusal_term_refers plan_Refusal_binding_refers plan_Refusal_constraint_refers plan_Refusal_control_flow_refers plan_Refusal_row_refers plan_Refusal_generated_refers plan_Refusal_all_exist plan_Refusal_source_count plan_Refusal_pattern_count plan_Refusal_arm_length_fits plan_Refusal_lengths_fit plan_Refusal_sources_below plan_Refusal_arguments_distinct plan_Refusal_sources_lower plan_Refusal_returns_last plan_Refusal_returns_fit plan_Refusal_matches_armed plan_Refusal_matches_have_arms plan_Refusal_loop_fits plan_Refusal_loops_iterate plan_Refusal_judged plan_Refusal_outcome plan_Row_level codegen_Block_arm_count codegen_Block_block_weight codegen_Block_buffer codegen_Block_iter_return codegen_Block_let_head codegen_Block_let_line codegen_Block_lets codegen_Block_one_arm_head codegen_Block_match_head codegen_Block_opening codegen_Block_nothing_written codegen_Block_matching codegen_Block_equal_head codegen_Block_loop_head codegen_Block_return_line codegen_Block_log_lines codegen_Block_returning codegen_Block_emit_check codegen_Block_emit_arm codegen_Block_own codegen_Block_closures codegen_Block_place codegen_Block_end_closure codegen_Block_catchall codegen_Block_end_block codegen_Block_closing codegen_Block_left codegen_Block_restored codegen_Block_pushed codegen_Block_open_closure codegen_Block_row_parts codegen_Block_after codegen_Block_here codegen_Block_splits_here codegen_Block_next codegen_Block_written codegen_Block_walk codegen_Expr_passed codegen_Expr_parameters codegen_Expr_returns_ref codegen_Expr_call codegen_Expr_field_lines codegen_Expr_extract_fields codegen_Expr_emit_binding codegen_Expr_emit_below codegen_Expr_emit_expr codegen_Expr_emit_source codegen_Pattern_bind_all codegen_Pattern_field_patterns codegen_Pattern_skipped_some codegen_Pattern_emit_fields codegen_Pattern_inside_some codegen_Pattern_emit_constraint codegen_ReturnKind_by_return_kind codegen_Sema_is_ref_type codegen_Sema_int_type codegen_Sema_field_name codegen_Sema_field_type codegen_Sema_func_name_of codegen_Sema_full_name_of codegen_Sema_is_external codegen_Sema_extractor_sig codegen_Sema_constructor_sig codegen_Terms_rowless codegen_Terms_mark_argument codegen_Terms_argument_refs codegen_Terms_argument_lines codegen_Terms_signature codegen_Terms_ends_in_return codegen_Terms_last_expr codegen_Terms_term_end codegen_Terms_body_of codegen_Terms_start codegen_Terms_splits codegen_Terms_term_parts codegen_Writer_said
worked_enclosure = record { before = take 9 case_parts; after = drop 34 case_parts; base = 3; around = 0; is = refl }
