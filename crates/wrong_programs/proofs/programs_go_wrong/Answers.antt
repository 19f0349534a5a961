use Rattle.wrong_programs.proofs.Wrong.{operand_wrong, start_value_wrong, argument_wrong}
use Rattle.wrong_programs.proofs.Wrong.{argument_count_wrong, constant_assigned_wrong, this_outside_wrong}
use Rattle.wrong_programs.proofs.Wrong.{pointer_returned_wrong, main_of_pointers_wrong, nothing_returned_wrong, global_as_local_wrong}
use Rattle.wrong_programs.proofs.Inside.{atomic_reads_wrong}
use Rattle.wrong_programs.proofs.Sent.{local_sent_wrong}
use Rattle.wrong_programs.proofs.Moved.{member_address_wrong}
use Rattle.wrong_programs.proofs.Assigned.{assigned_wrong}
use Rattle.wrong_programs.proofs.Nothing.{void_used_wrong}
use Rattle.wrong_programs.proofs.programs_go_wrong.Goals as goal

pub returns-clause-operand : goal.returns-clause-operand
returns-clause-operand c = operand_wrong

pub returns-clause-start_value : goal.returns-clause-start_value
returns-clause-start_value c = start_value_wrong

pub returns-clause-argument : goal.returns-clause-argument
returns-clause-argument c = argument_wrong

pub returns-clause-argument_count : goal.returns-clause-argument_count
returns-clause-argument_count c = argument_count_wrong

pub returns-clause-constant_assigned : goal.returns-clause-constant_assigned
returns-clause-constant_assigned c = constant_assigned_wrong

pub returns-clause-this_outside : goal.returns-clause-this_outside
returns-clause-this_outside c = this_outside_wrong

pub returns-clause-pointer_returned : goal.returns-clause-pointer_returned
returns-clause-pointer_returned c = pointer_returned_wrong

pub returns-clause-main_of_pointers : goal.returns-clause-main_of_pointers
returns-clause-main_of_pointers c = main_of_pointers_wrong

pub returns-clause-nothing_returned : goal.returns-clause-nothing_returned
returns-clause-nothing_returned c = nothing_returned_wrong

pub returns-clause-global_as_local : goal.returns-clause-global_as_local
returns-clause-global_as_local c = global_as_local_wrong

pub returns-clause-atomic_reads : goal.returns-clause-atomic_reads
returns-clause-atomic_reads c = atomic_reads_wrong

pub returns-clause-local_sent : goal.returns-clause-local_sent
returns-clause-local_sent c = local_sent_wrong

pub returns-clause-member_address : goal.returns-clause-member_address
returns-clause-member_address c = member_address_wrong

pub returns-clause-assigned : goal.returns-clause-assigned
returns-clause-assigned c = assigned_wrong

pub returns-clause-void_used : goal.returns-clause-void_used
returns-clause-void_used c = void_used_wrong
