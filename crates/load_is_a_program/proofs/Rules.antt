-- The load program breaks no rule, for each number of cells: that is computed.
use Rattle.std.proofs.Common.{◌≡◌, ℕ, zero, suc, ◌≤◌, [], refl, arith}
use denote.Hole.Carrier
use Rattle.cc_tree.specs.declared.expressions.ExprKind.{out-ExprKind}
use Rattle.cc_tree.specs.declared.expressions.ExprKind.TheBlock as expr_block
use Rattle.cc_tree.specs.declared.statements.StmtKind.{out-StmtKind}
use Rattle.cc_tree.specs.declared.statements.StmtKind.TheBlock as stmt_block
use Rattle.cc_core.specs.declared.expression.Expression.{out-Expression}
use Rattle.cc_core.specs.declared.expression.Expression.TheBlock as core_block
use Rattle.cc_tree.specs.declared.expressions.Suffix.{out-Suffix}
use Rattle.cc_lexer.specs.Spelling.{Text}
use Rattle.cc_grammar.specs.Reading.{Answer}
use Rattle.cc_grammar.specs.ReadExpressions as rx
use Rattle.cc_grammar.specs.ReadDeclarations as rd
use Rattle.cc_grammar.specs.ReadStatements as rs
use Rattle.cc_grammar.specs.ReadItems as ri
use Rattle.cc_grammar.specs.Reading as rg
use Rattle.cc_grammar.specs.Endings as en
use Rattle.cc_types.specs.Program.{rules_broken, rules_shared, main_params}
use Rattle.load_is_a_program.proofs.Parse.{tokens, program_of}
use Rattle.cc_names.specs.Broken as u0
use Rattle.cc_scopes.specs.Typed as u1
use Rattle.cc_scopes.specs.Lengths as u2
use Rattle.cc_scopes.specs.Scope as u3
use Rattle.cc_operators.specs.Operators as u4
use Rattle.cc_typing.specs.Expr as u5
use Rattle.cc_typing.specs.New as u6
use Rattle.cc_typing.specs.Whole as u7
use Rattle.cc_typing.specs.Parts as u8
use Rattle.cc_typing.specs.Calls as u9
use Rattle.cc_typing.specs.Objects as u10
use Rattle.cc_declared.specs.Slots as u11
use Rattle.cc_tables.specs.Tables as u12
use Rattle.cc_blocking.specs.Rounds as u13
use Rattle.cc_elaboration.specs.Assignments as u14
use Rattle.cc_elaboration.specs.Simple as u15
use Rattle.cc_elaboration.specs.Statements as u16
use Rattle.cc_elaboration.specs.Declarations as u17
use Rattle.cc_functions.specs.Builds as u18
use Rattle.cc_functions.specs.Constructors as u19
use Rattle.cc_functions.specs.Items as u20
use Rattle.cc_functions.specs.Functions as u21
use Rattle.cc_types.specs.Elaboration as u22

-- of so many cells the program breaks no rule, takes no ints, and shares nothing
abbrev Claim : ℕ → Type 0
Claim cells = (wide : ℕ) (cells_text wide_text : Text) →
    let p = program_of (ri.program 64 (tokens cells cells_text wide wide_text)) in
    (rules_broken p ≡ []) × (main_params p.items ≡ 0) × (rules_shared p ≡ [])

each : Claim 1 × Claim 2 × Claim 3 × Claim 4 × Claim 5 × Claim 6 × Claim 7 × Claim 8
unfolding out-StmtKind out-Expression Carrier.shown Carrier.hidden expr_block.shown-the_row-Link-3 stmt_block.shown-the_row-Stmt-1 core_block.shown-the_row-Expression-0 u0.is_before u1.load u1.pointed u2.length_in_range u3.twice u3.declare u4.operated u4.dereferenced u4.address_of u4.joined_values u4.joined u5.node u5.expr_to u6.made u7.array_length u7.constant u7.fitting u7.place u7.written u8.operand u8.argument u8.args u8.call u8.chain u8.prefixed u8.new_length u8.new_class u8.index_value u8.index_array u8.field u8.call_on u8.suffix u8.post u9.args_rule u9.callee_rule u9.entered u10.value_before_arrow u11.typed_as u11.arrayed u11.slot u12.tables_of u13.grown u13.may_block u14.combined u14.combined_value u14.assignment_to u14.no_assignment u14.assignment u14.assign u15.int_value u15.call u15.spawn u15.printed_value u15.print u15.return_value u15.return_from_void u15.give u16.names u16.step_value u16.statements u16.block_of u16.open_block u16.body u16.if_only u16.both u16.if_else u16.repeated u16.turn u16.counted u16.headed u16.loop_of u16.parts u16.par u16.no_step u16.header_step u16.header_rest u16.header u16.copied u16.iterated u16.parfor u16.kind_of u16.node u16.statement_to u17.misplaced_value u17.misplaced_args u17.started_cell u17.started_object u17.declaration u18.built u18.built_to u18.is_own u18.is_own_to u19.refused u19.assigned u19.other u19.set u19.param_in u19.constructor_at u20.field_member u20.function_member u20.class_item u20.constant_item u20.function_item u20.after_constant u20.after_class u20.after_function u20.items u21.param_at u21.result_of u21.parts u21.function_at u22.read u22.elaboration_of rx.dot rx.operators rx.equality_operator rx.order_operator rx.sum_operator rx.product_operator rx.operator rx.link rx.links rx.after_comma rx.commas rx.listed rx.args rx.maybe_args rx.bracketed rx.maybe_bracketed rx.paren rx.index rx.member rx.tail rx.tails rx.named_root rx.this rx.root rx.literal rx.null rx.prim rx.prefix rx.new_object rx.new_int rx.creation rx.postfix rx.unary_line rx.product rx.sum rx.order rx.equal rx.conjunction rx.expr_line rx.operand rx.place_chain rx.place_line rx.call_line rx.unary rx.expr rx.inner_expr rx.inner_unary rd.int_spec rd.sync_spec rd.void_spec rd.named_spec rd.spec rd.global_pointer rd.sync_pointer rd.star rd.maybe_star rd.param rd.params rd.slot rd.valued rd.built rd.plain_var rd.var_end rd.var rd.decl rs.test rs.expr_semicolon rs.assign rs.count rs.set_to rs.counted rs.changed rs.count_first rs.deref_changed rs.chain_stmt rs.simple rs.maybe_simple rs.out_value rs.out_string rs.out_endl rs.out rs.shift rs.shifts rs.print rs.beginning rs.maybe_beginning rs.header_start rs.maybe_expr rs.header_test rs.header_step rs.header rs.int_name rs.counter_step rs.counter rs.empty rs.plain rs.spawned rs.returned rs.decl_entry rs.stmt_entry rs.entry rs.entries rs.block rs.block_stmt rs.else_stmt rs.otherwise rs.choice rs.loop rs.for_loop rs.stmts rs.braced rs.parallel rs.parallel_for rs.word_stmt rs.stmt_line rs.stmt rs.inner_stmt ri.function_end ri.function ri.label_word ri.label ri.build ri.atomic_method ri.field ri.fields_end ri.method_end ri.typed_member ri.plain_member ri.member ri.member_list ri.members ri.constant ri.class_word ri.global_head ri.local_head ri.class_head ri.class ri.function_item ri.item ri.items ri.program rg.token rg.opening rg.has_word rg.many_from en.root_ending en.tail_ending out-ExprKind out-Suffix Carrier.out Carrier.roll
each = (
  (λ wide cells_text wide_text. (refl, refl, refl)),
  (λ wide cells_text wide_text. (refl, refl, refl)),
  (λ wide cells_text wide_text. (refl, refl, refl)),
  (λ wide cells_text wide_text. (refl, refl, refl)),
  (λ wide cells_text wide_text. (refl, refl, refl)),
  (λ wide cells_text wide_text. (refl, refl, refl)),
  (λ wide cells_text wide_text. (refl, refl, refl)),
  (λ wide cells_text wide_text. (refl, refl, refl)),
)

pub keeps_rules : (cells : ℕ) → 1 ≤ cells → cells ≤ 8 → Claim cells
keeps_rules zero h i = absurd (omega arith)
keeps_rules (suc zero) h i = each.0
keeps_rules (suc (suc zero)) h i = each.1
keeps_rules (suc (suc (suc zero))) h i = each.2
keeps_rules (suc (suc (suc (suc zero)))) h i = each.3
keeps_rules (suc (suc (suc (suc (suc zero))))) h i = each.4
keeps_rules (suc (suc (suc (suc (suc (suc zero)))))) h i = each.5
keeps_rules (suc (suc (suc (suc (suc (suc (suc zero))))))) h i = each.6
keeps_rules (suc (suc (suc (suc (suc (suc (suc (suc zero)))))))) h i = each.7
keeps_rules (suc (suc (suc (suc (suc (suc (suc (suc (suc n))))))))) h i = absurd (omega arith)
