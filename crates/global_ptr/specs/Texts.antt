-- The texts that reports print.
use Rattle.std.specs.Prelude.{ℕ, List, ◌++◌, codes, decimal}
use Rattle.std.specs.Fmt.{signed_decimal}
use Rattle.global_ptr.specs.declared.ends.FaultKind.{FaultKind}
use Rattle.global_ptr.specs.declared.ends.FaultKind.TheVariants.{SyncTwice, Overflow, DivideByZero, IndexOut, NullPointer, StoreFull, ThreadsFull, ProcessorsFull, CallDepth}
use Rattle.global_ptr.specs.declared.values.Addr.{Addr}
use Rattle.global_ptr.specs.declared.values.Value.{Value}
use Rattle.global_ptr.specs.declared.values.Value.TheVariants.{Void, Int, Null, Ptr}

-- the name of a fault
abbrev pub fault_name : FaultKind → List ℕ
fault_name SyncTwice = codes "SyncTwice"
fault_name Overflow = codes "Overflow"
fault_name DivideByZero = codes "DivideByZero"
fault_name IndexOut = codes "IndexOut"
fault_name NullPointer = codes "NullPointer"
fault_name StoreFull = codes "StoreFull"
fault_name ThreadsFull = codes "ThreadsFull"
fault_name ProcessorsFull = codes "ProcessorsFull"
fault_name CallDepth = codes "CallDepth"

-- an address: processor, object and offset, with colons between them
abbrev pub address_text : Addr → List ℕ
address_text a = decimal a.processor ++ (codes ":" ++ (decimal a.object ++ (codes ":" ++ decimal a.offset)))

-- a value: a number in decimal, or a word, or an address
abbrev pub value_text : Value → List ℕ
value_text Void = codes "void"
value_text (Int n) = signed_decimal n
value_text Null = codes "null"
value_text (Ptr a) = address_text a
