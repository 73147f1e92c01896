-- Worked cases of Req 01, by computation from the plan's bytes: the small plans of the readings. The third line of a case is its sheet
-- without the names line.
use Prim.Native.String.{String}
use Rattle.std.specs.Prelude.{ℕ, ◌≡◌, refl, Bool, true, ◌&&◌, List, [], ◌∷◌, ◌++◌}
use Rattle.text.specs.Codes.{codes}
use Rattle.text.specs.Digits.{digits as text_Digits_digits, decimal as text_Digits_decimal}
use Rattle.text.specs.Split.{split as text_Split_split, ended as text_Split_ended, same as text_Split_same, starts_with as text_Split_starts_with}
use Rattle.plan.specs.Layout.{◌⊛◌, each as plan_Layout_each, only as plan_Layout_only, digits as plan_Layout_digits, decimal_from as plan_Layout_decimal_from, number as plan_Layout_number, unused as plan_Layout_unused, bit as plan_Layout_bit, number_to as plan_Layout_number_to, hex_digits as plan_Layout_hex_digits, hex_from as plan_Layout_hex_from, value as plan_Layout_value, function_kind as plan_Layout_function_kind, list as plan_Layout_list, field as plan_Layout_field, pattern_binding as plan_Layout_pattern_binding, row as plan_Layout_row, options_row as plan_Layout_options_row, by_kind as plan_Layout_by_kind, declared as plan_Layout_declared, type_row as plan_Layout_type_row, variant_row as plan_Layout_variant_row, term_row as plan_Layout_term_row, binding_row as plan_Layout_binding_row, block_row as plan_Layout_block_row, below as plan_Layout_below, nested as plan_Layout_nested, table as plan_Layout_table, generated_term as plan_Layout_generated_term, generated_terms as plan_Layout_generated_terms, environment as plan_Layout_environment, plan_of as plan_Layout_plan_of, read as plan_Layout_read}
use Rattle.plan.specs.Lookup.{variants_of as plan_Lookup_variants_of}
use Rattle.plan.specs.Refusal.{every as plan_Refusal_every, fits_length as plan_Refusal_fits_length, bytes_allowed as plan_Refusal_bytes_allowed, environment_most as plan_Refusal_environment_most, generated_most as plan_Refusal_generated_most, within_most as plan_Refusal_within_most, type_refers as plan_Refusal_type_refers, variant_refers as plan_Refusal_variant_refers, term_refers as plan_Refusal_term_refers, binding_refers as plan_Refusal_binding_refers, constraint_refers as plan_Refusal_constraint_refers, control_flow_refers as plan_Refusal_control_flow_refers, row_refers as plan_Refusal_row_refers, generated_refers as plan_Refusal_generated_refers, all_exist as plan_Refusal_all_exist, source_count as plan_Refusal_source_count, pattern_count as plan_Refusal_pattern_count, arm_length_fits as plan_Refusal_arm_length_fits, lengths_fit as plan_Refusal_lengths_fit, sources_below as plan_Refusal_sources_below, arguments_distinct as plan_Refusal_arguments_distinct, sources_lower as plan_Refusal_sources_lower, returns_last as plan_Refusal_returns_last, returns_fit as plan_Refusal_returns_fit, matches_armed as plan_Refusal_matches_armed, matches_have_arms as plan_Refusal_matches_have_arms, loop_fits as plan_Refusal_loop_fits, loops_iterate as plan_Refusal_loops_iterate, judged as plan_Refusal_judged, outcome as plan_Refusal_outcome, refusal as plan_Refusal_refusal}
use Rattle.plan.specs.Row.{level as plan_Row_level}
use Rattle.codegen.specs.Block.{arm_count as codegen_Block_arm_count}
use Rattle.origin.specs.Names.{listed as codegen_Names_listed, after_list as codegen_Names_after_list, match_inside as codegen_Names_match_inside, arm_inside as codegen_Names_arm_inside, inside as codegen_Names_inside, match_opens as codegen_Names_match_opens, arm_opens as codegen_Names_arm_opens, opens as codegen_Names_opens, restore as codegen_Names_restore, keep as codegen_Names_keep, opened as codegen_Names_opened, at_row as codegen_Names_at_row, past as codegen_Names_past}
use Rattle.codegen.specs.Pattern.{bind_all as codegen_Pattern_bind_all}
use Rattle.codegen.specs.ReturnKind.{by_return_kind as codegen_ReturnKind_by_return_kind}
use Rattle.codegen.specs.Sema.{func_name_of as codegen_Sema_func_name_of, full_name_of as codegen_Sema_full_name_of, is_external as codegen_Sema_is_external, extractor_sig as codegen_Sema_extractor_sig, constructor_sig as codegen_Sema_constructor_sig}
use Rattle.codegen.specs.Writer.{said as codegen_Writer_said}
use Rattle.schedule_rules.specs.Faults.{any as FaultsAny, returns_many as FaultsReturnsMany, holds as FaultsHolds, calls_below as FaultsCallsBelow, calls as FaultsCalls, uses as FaultsUses, loop_unbound as FaultsLoopUnbound, list_calls as FaultsListCalls, check_calls as FaultsCheckCalls, own_new as FaultsOwnNew, source_uses_own as FaultsSourceUsesOwn, match_uses_own as FaultsMatchUsesOwn, row_faults as FaultsRowFaults, block_faults as FaultsBlockFaults, table_faults as FaultsTableFaults, none_in as FaultsNoneIn, tables_free as FaultsTablesFree, fault_free as FaultsFaultFree}
use Rattle.schedule_rules.specs.Sheet.{fault_line as SheetFaultLine, row_lines as SheetRowLines, table_lines as SheetTableLines, plan_lines as SheetPlanLines, sheet as SheetSheet, schedule_text, sheet_answer_of as SheetSheetAnswerOf, sheet_answer as SheetSheetAnswer}

-- each text with the end of its line
abbrev pub lines : List String → List ℕ
lines [] = []
lines (l ∷ ls) = codes l ++ (10 ∷ lines ls)

-- the tables before the generated term: term 0 is of iterator kind and generated, term 1 is an external one of iterator kind
abbrev pub frame : List String
frame =
    "nopragmas log split threshold"
    ∷ "0 0 1 0"
    ∷ ""
    ∷ "file"
    ∷ ""
    ∷ "sym"
    ∷ "g"
    ∷ "it"
    ∷ "pl"
    ∷ "S"
    ∷ "V"
    ∷ ""
    ∷ "pos"
    ∷ "p"
    ∷ ""
    ∷ "kind name extern nodebug pos list"
    ∷ "enum 3 0 0 0 -"
    ∷ "tuple 3 0 0 0 1,1"
    ∷ ""
    ∷ "type name shape list"
    ∷ "13 4 tuple 1,1"
    ∷ ""
    ∷ "name pos ret multi partial ctor xtor infallible list"
    ∷ "0 0 1 1 0 in - 0 1"
    ∷ "1 0 1 1 0 1 1 0 1"
    ∷ "2 0 1 0 0 2 2 1 1"
    ∷ "0 0 1 0 1 in - 0 1" ∷ "" ∷ []

pub record Case : Type 0 where
  pub bindings : List String
  pub rows : List String
  pub faults : List String

abbrev pub plan_of : Case → List ℕ
plan_of c = lines frame ++ (lines ("term" ∷ "0" ∷ "" ∷ "kind a b list" ∷ []) ++ (lines c.bindings ++ (lines ("" ∷ "level kind a b list" ∷ []) ++ (lines c.rows ++ (10 ∷ [])))))

-- A13
abbrev pub loop_unbound : Case
loop_unbound = record {
  bindings = ("arg 0 - -" ∷ "construct 1 - 0" ∷ "iter - - 1" ∷ []);
  rows = ("0 loop 2 - -" ∷ []);
  faults = ("0 0 a" ∷ []);
}

-- A13
abbrev pub loop_listed : Case
loop_listed = record {
  bindings = ("arg 0 - -" ∷ "construct 1 - 0" ∷ "iter - - 1" ∷ []);
  rows = ("0 loop 2 - 1" ∷ []);
  faults = [];
}

-- A10: the let of the first loop binds nothing
abbrev pub loop_again : Case
loop_again = record {
  bindings = ("arg 0 - -" ∷ "construct 1 - 0" ∷ "iter - - 1" ∷ []);
  rows = ("0 loop 2 - -" ∷ "0 loop 2 - -" ∷ []);
  faults = ("0 0 a" ∷ "0 1 a" ∷ []);
}

-- A14
abbrev pub loop_over_argument : Case
loop_over_argument = record {
  bindings = ("arg 0 - -" ∷ "iter - - 0" ∷ []);
  rows = ("0 loop 1 - -" ∷ "0 loop 1 - 0" ∷ []);
  faults = ("0 0 a" ∷ []);
}

-- A15
abbrev pub loop_lists_result : Case
loop_lists_result = record {
  bindings = ("arg 0 - -" ∷ "construct 1 - 0" ∷ "iter - - 1" ∷ []);
  rows = ("0 loop 2 - 2" ∷ []);
  faults = ("0 0 a" ∷ "0 0 b" ∷ []);
}

-- A18
abbrev pub call_returned : Case
call_returned = record {
  bindings = ("arg 0 - -" ∷ "construct 1 - 0" ∷ []);
  rows = ("0 return 1 0 -" ∷ []);
  faults = ("0 0 b" ∷ []);
}

-- A17
abbrev pub call_never_written : Case
call_never_written = record {
  bindings = ("arg 0 - -" ∷ "construct 1 - 0" ∷ "iter - - 1" ∷ []);
  rows = ("0 return 0 0 -" ∷ []);
  faults = [];
}

-- A19
abbrev pub call_inside_member : Case
call_inside_member = record {
  bindings = ("arg 0 - -" ∷ "construct 1 - 0" ∷ "some - - 1" ∷ []);
  rows = ("0 return 2 0 2" ∷ []);
  faults = ("0 0 b" ∷ []);
}

-- A19
abbrev pub call_listed_late : Case
call_listed_late = record {
  bindings = ("arg 0 - -" ∷ "construct 1 - 0" ∷ "some - - 1" ∷ []);
  rows = ("0 return 2 0 2,1" ∷ []);
  faults = ("0 0 b" ∷ []);
}

-- A19
abbrev pub call_listed_first : Case
call_listed_first = record {
  bindings = ("arg 0 - -" ∷ "construct 1 - 0" ∷ "some - - 1" ∷ []);
  rows = ("0 return 2 0 1,2" ∷ []);
  faults = [];
}

-- A20
abbrev pub call_of_call : Case
call_of_call = record {
  bindings = ("arg 0 - -" ∷ "construct 1 - 0" ∷ "construct 1 - 1" ∷ []);
  rows = ("0 return 2 0 2" ∷ []);
  faults = ("0 0 b" ∷ []);
}

-- A21
abbrev pub call_twice_listed : Case
call_twice_listed = record {
  bindings = ("arg 0 - -" ∷ "construct 1 - 0" ∷ []);
  rows = ("0 return 1 0 1,1" ∷ []);
  faults = [];
}

-- A9
abbrev pub call_both_sides : Case
call_both_sides = record {
  bindings = ("arg 0 - -" ∷ "construct 1 - 0" ∷ []);
  rows = ("0 equal 1 1 -" ∷ []);
  faults = ("0 0 b" ∷ []);
}

-- A11
abbrev pub call_after_block : Case
call_after_block = record {
  bindings = ("arg 0 - -" ∷ "construct 1 - 0" ∷ []);
  rows = ("0 equal 0 0 -" ∷ "1 return 1 0 1" ∷ "0 return 1 0 -" ∷ []);
  faults = ("0 2 b" ∷ []);
}

-- A11
abbrev pub call_beside_block : Case
call_beside_block = record {
  bindings = ("arg 0 - -" ∷ "construct 1 - 0" ∷ []);
  rows = ("0 equal 0 0 1" ∷ "1 return 1 0 -" ∷ "0 return 1 0 -" ∷ []);
  faults = [];
}

-- A22
abbrev pub call_in_constant_match : Case
call_in_constant_match = record {
  bindings = ("arg 0 - -" ∷ "construct 1 - 0" ∷ []);
  rows = ("0 match 1 - -" ∷ "1 bool 1 - -" ∷ []);
  faults = ("0 0 b" ∷ []);
}

-- A22, A24
abbrev pub own_source : Case
own_source = record {
  bindings = ("arg 0 - -" ∷ "construct 1 - 0" ∷ []);
  rows = ("0 match 1 - -" ∷ "1 some - - 1" ∷ []);
  faults = ("0 0 c" ∷ []);
}

-- A24
abbrev pub own_below_source : Case
own_below_source = record {
  bindings = ("arg 0 - -" ∷ "some - - 0" ∷ []);
  rows = ("0 match 1 - -" ∷ "1 some - - 0" ∷ []);
  faults = ("0 0 c" ∷ []);
}

-- A25
abbrev pub own_bound_before : Case
own_bound_before = record {
  bindings = ("arg 0 - -" ∷ []);
  rows = ("0 match 0 - 0" ∷ "1 some - - 0" ∷ []);
  faults = [];
}

-- A24
abbrev pub own_not_used : Case
own_not_used = record {
  bindings = ("arg 0 - -" ∷ "matchsome - - 0" ∷ []);
  rows = ("0 match 0 - -" ∷ "1 some - - 1" ∷ "2 return 1 0 -" ∷ []);
  faults = [];
}

-- A24: the source is another name
abbrev pub own_beside_name : Case
own_beside_name = record {
  bindings = ("arg 0 - -" ∷ "matchsome - - 0" ∷ []);
  rows = ("0 match 0 - 0" ∷ "1 some - - 1" ∷ "2 return 1 0 -" ∷ []);
  faults = [];
}

-- A23
abbrev pub own_of_two_arms : Case
own_of_two_arms = record {
  bindings = ("arg 0 - -" ∷ "some - - 0" ∷ []);
  rows = ("0 match 1 - -" ∷ "1 some - - 0" ∷ "1 some - - _" ∷ []);
  faults = [];
}

-- A24
abbrev pub own_fields : Case
own_fields = record {
  bindings = ("arg 0 - -" ∷ "struct 14 - 0,0" ∷ []);
  rows = ("0 match 1 - -" ∷ "1 struct 14 - _,0" ∷ []);
  faults = ("0 0 c" ∷ []);
}

-- A8
abbrev pub letters_b_c : Case
letters_b_c = record {
  bindings = ("arg 0 - -" ∷ "construct 1 - 0" ∷ "variant 13 0 0,1" ∷ []);
  rows = ("0 match 2 - -" ∷ "1 variant 13 0 0,_" ∷ []);
  faults = ("0 0 b" ∷ "0 0 c" ∷ []);
}

-- A8
abbrev pub letters_a_b : Case
letters_a_b = record {
  bindings = ("arg 0 - -" ∷ "construct 1 - 0" ∷ "some - - 1" ∷ "iter - - 1" ∷ []);
  rows = ("0 loop 3 - 2" ∷ []);
  faults = ("0 0 a" ∷ "0 0 b" ∷ []);
}

-- A11
abbrev pub split_arms : Case
split_arms = record {
  bindings = ("arg 0 - -" ∷ "construct 1 - 0" ∷ "iter - - 1" ∷ []);
  rows = ("0 match 0 - -" ∷ "1 some - - 1" ∷ "2 loop 2 - -" ∷ "1 some - - _" ∷ "2 return 1 0 -" ∷ []);
  faults = ("0 4 b" ∷ []);
}

-- A3
abbrev pub nothing : Case
nothing = record {
  bindings = [];
  rows = [];
  faults = [];
}

abbrev pub cases : List Case
cases = loop_unbound ∷ loop_listed ∷ loop_again ∷ loop_over_argument ∷ loop_lists_result ∷ call_returned ∷ call_never_written ∷ call_inside_member ∷ call_listed_late ∷ call_listed_first ∷ call_of_call ∷ call_twice_listed ∷ call_both_sides ∷ call_after_block ∷ call_beside_block ∷ call_in_constant_match ∷ own_source ∷ own_below_source ∷ own_bound_before ∷ own_not_used ∷ own_beside_name ∷ own_of_two_arms ∷ own_fields ∷ letters_b_c ∷ letters_a_b ∷ split_arms ∷ nothing ∷ []

-- the sheet is as the case says
unfoldable pub case_holds : Case → Bool
case_holds c = text_Split_same (schedule_text (plan_of c)) (lines ("term row fault" ∷ c.faults))

unfoldable pub all_hold : List Case → Bool
all_hold [] = true
all_hold (c ∷ cs) = case_holds c && all_hold cs

pub worked_cases : all_hold cases ≡ true
unfolding case_holds all_hold text_Digits_digits text_Digits_decimal text_Split_split text_Split_ended text_Split_same text_Split_starts_with ◌⊛◌ plan_Layout_each plan_Layout_only plan_Layout_digits plan_Layout_decimal_from plan_Layout_number plan_Layout_unused plan_Layout_bit plan_Layout_number_to plan_Layout_hex_digits plan_Layout_hex_from plan_Layout_value plan_Layout_function_kind plan_Layout_list plan_Layout_field plan_Layout_pattern_binding plan_Layout_row plan_Layout_options_row plan_Layout_by_kind plan_Layout_declared plan_Layout_type_row plan_Layout_variant_row plan_Layout_term_row plan_Layout_binding_row plan_Layout_block_row plan_Layout_below plan_Layout_nested plan_Layout_table plan_Layout_generated_term plan_Layout_generated_terms plan_Layout_environment plan_Layout_plan_of plan_Layout_read plan_Lookup_variants_of plan_Refusal_every plan_Refusal_fits_length plan_Refusal_bytes_allowed plan_Refusal_environment_most plan_Refusal_generated_most plan_Refusal_within_most plan_Refusal_type_refers plan_Refusal_variant_refers plan_Refusal_term_refers plan_Refusal_binding_refers plan_Refusal_constraint_refers plan_Refusal_control_flow_refers plan_Refusal_row_refers plan_Refusal_generated_refers plan_Refusal_all_exist plan_Refusal_source_count plan_Refusal_pattern_count plan_Refusal_arm_length_fits plan_Refusal_lengths_fit plan_Refusal_sources_below plan_Refusal_arguments_distinct plan_Refusal_sources_lower plan_Refusal_returns_last plan_Refusal_returns_fit plan_Refusal_matches_armed plan_Refusal_matches_have_arms plan_Refusal_loop_fits plan_Refusal_loops_iterate plan_Refusal_judged plan_Refusal_outcome plan_Refusal_refusal plan_Row_level codegen_Block_arm_count codegen_Names_listed codegen_Names_after_list codegen_Names_match_inside codegen_Names_arm_inside codegen_Names_inside codegen_Names_match_opens codegen_Names_arm_opens codegen_Names_opens codegen_Names_restore codegen_Names_keep codegen_Names_opened codegen_Names_at_row codegen_Names_past codegen_Pattern_bind_all codegen_ReturnKind_by_return_kind codegen_Sema_func_name_of codegen_Sema_full_name_of codegen_Sema_is_external codegen_Sema_extractor_sig codegen_Sema_constructor_sig codegen_Writer_said FaultsAny FaultsReturnsMany FaultsHolds FaultsCallsBelow FaultsCalls FaultsUses FaultsLoopUnbound FaultsListCalls FaultsCheckCalls FaultsOwnNew FaultsSourceUsesOwn FaultsMatchUsesOwn FaultsRowFaults FaultsBlockFaults FaultsTableFaults FaultsNoneIn FaultsTablesFree FaultsFaultFree SheetFaultLine SheetRowLines SheetTableLines SheetPlanLines SheetSheet schedule_text SheetSheetAnswerOf SheetSheetAnswer
worked_cases = refl
