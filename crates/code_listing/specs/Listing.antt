-- The listing of code: the name of each function, and behind it its instructions, each with its place.
use Rattle.std.specs.Prelude.{ℕ, zero, suc, ◌==◌, ◌-◌, if◌then◌else◌, true, false, List, [], ◌∷◌, ◌++◌, length, map, take, drop, codes, decimal}
use Rattle.std.specs.Fmt.{signed_decimal}
use Rattle.cc_ops.specs.Values.{Constant, VoidC, IntC, NullC}
use Rattle.cc_ops.specs.declared.kind.Kind.{Kind}
use Rattle.cc_ops.specs.declared.kind.Kind.TheVariants.{Int as IntK, SyncInt as SyncIntK, Ptr as PtrK, SyncPtr as SyncPtrK}
use Rattle.cc_ops.specs.declared.operator.Op.{Op}
use Rattle.cc_ops.specs.declared.operator.Op.TheVariants.{Neg, Not, Bool as Bool', Add, Sub, Mul, Div, Rem, Eq, Ne, Lt, Le, Gt, Ge}
use Rattle.cc_core.specs.Core.{Alone, On, Remote, PrintPart, Number, Text, Endl, function_shape}
use Rattle.cc_code.specs.Code.{Instr, PushI, ThisI, VariableI, FieldI, DropI, JumpI, EndI, IndexI, AtI, LoadI, StoreI, OpI, TestI, AndI}
use Rattle.cc_code.specs.Code.{OrI, MakeI, SetI, BuildI, NewI, NewObjectI, CallI, SpawnI, CellsI, RetI, ForkI, EachI, JoinI, PrintI}
use Rattle.cc_code.specs.Code.{Placed, Code, entry}
use Rattle.cc_code.specs.Valid.{end_of}

abbrev pub constant_text : Constant → List ℕ
constant_text VoidC = codes "void"
constant_text (IntC n) = signed_decimal n
constant_text NullC = codes "null"

abbrev pub kind_text : Kind → List ℕ
kind_text IntK = codes "int"
kind_text SyncIntK = codes "syncint"
kind_text PtrK = codes "ptr"
kind_text SyncPtrK = codes "syncptr"

abbrev pub op_text : Op → List ℕ
op_text Neg = codes "neg"
op_text Not = codes "not"
op_text Bool' = codes "bool"
op_text Add = codes "add"
op_text Sub = codes "sub"
op_text Mul = codes "mul"
op_text Div = codes "div"
op_text Rem = codes "rem"
op_text Eq = codes "eq"
op_text Ne = codes "ne"
op_text Lt = codes "lt"
op_text Le = codes "le"
op_text Gt = codes "gt"
op_text Ge = codes "ge"

-- bytes by their names
abbrev pub tab : ℕ
tab = 9

abbrev pub line_feed : ℕ
line_feed = 10

abbrev pub space : ℕ
space = 32

abbrev pub quote : ℕ
quote = 34

abbrev pub backslash : ℕ
backslash = 92

-- a line feed, a tab, a backslash and a quote are written with a backslash, and all other bytes as they are
abbrev pub escaped : ℕ → List ℕ
escaped b =
    if b == line_feed then backslash ∷ codes "n"
    else (if b == tab then backslash ∷ codes "t"
    else (if b == backslash then backslash ∷ backslash ∷ [] else (if b == quote then backslash ∷ quote ∷ [] else b ∷ [])))

abbrev pub all_escaped : List ℕ → List ℕ
all_escaped [] = []
all_escaped (b ∷ bs) = escaped b ++ all_escaped bs

abbrev pub part_text : PrintPart → List ℕ
part_text Number = codes "int"
part_text (Text bytes) = quote ∷ all_escaped bytes ++ quote ∷ []
part_text Endl = codes "endl"

abbrev pub instr_name : Instr → List ℕ
instr_name (PushI c) = codes "push"
instr_name ThisI = codes "this"
instr_name (VariableI k) = codes "var"
instr_name (FieldI o) = codes "field"
instr_name DropI = codes "drop"
instr_name (JumpI to) = codes "jump"
instr_name EndI = codes "end"
instr_name (IndexI n) = codes "index"
instr_name AtI = codes "at"
instr_name (LoadI false) = codes "load"
instr_name (LoadI true) = codes "get"
instr_name (StoreI false) = codes "store"
instr_name (StoreI true) = codes "put"
instr_name (OpI op) = codes "op"
instr_name (TestI to) = codes "test"
instr_name (AndI to) = codes "and"
instr_name (OrI to) = codes "or"
instr_name (MakeI k kind n) = codes "make"
instr_name (SetI k kind) = codes "set"
instr_name (BuildI k c) = codes "build"
instr_name (NewI kind n) = codes "new"
instr_name (NewObjectI false c) = codes "newobj"
instr_name (NewObjectI true c) = codes "newproc"
instr_name (CallI Alone f) = codes "call"
instr_name (CallI On f) = codes "callon"
instr_name (CallI Remote f) = codes "ask"
instr_name (SpawnI Alone f) = codes "spawn"
instr_name (SpawnI On f) = codes "spawnon"
instr_name (SpawnI Remote f) = codes "cast"
instr_name (CellsI n) = codes "cells"
instr_name RetI = codes "ret"
instr_name (ForkI targets) = codes "fork"
instr_name (EachI to k) = codes "each"
instr_name JoinI = codes "join"
instr_name (PrintI parts) = codes "print"

-- what stands behind the name
abbrev pub operand_words : Instr → List (List ℕ)
operand_words (PushI c) = constant_text c ∷ []
operand_words (VariableI k) = decimal k ∷ []
operand_words (FieldI o) = decimal o ∷ []
operand_words (JumpI to) = decimal to ∷ []
operand_words (IndexI n) = decimal n ∷ []
operand_words (OpI op) = op_text op ∷ []
operand_words (TestI to) = decimal to ∷ []
operand_words (AndI to) = decimal to ∷ []
operand_words (OrI to) = decimal to ∷ []
operand_words (MakeI k kind n) = decimal k ∷ kind_text kind ∷ decimal n ∷ []
operand_words (SetI k kind) = decimal k ∷ kind_text kind ∷ []
operand_words (BuildI k c) = decimal k ∷ decimal c ∷ []
operand_words (NewI kind n) = kind_text kind ∷ decimal n ∷ []
operand_words (NewObjectI remote c) = decimal c ∷ []
operand_words (CallI how f) = decimal f ∷ []
operand_words (SpawnI how f) = decimal f ∷ []
operand_words (CellsI n) = decimal n ∷ []
operand_words (ForkI targets) = map decimal targets
operand_words (EachI to k) = decimal to ∷ decimal k ∷ []
operand_words (PrintI parts) = map part_text parts
operand_words i = []

-- each word behind a space
abbrev pub spaced : List (List ℕ) → List ℕ
spaced [] = []
spaced (w ∷ ws) = space ∷ w ++ spaced ws

abbrev pub instr_text : Instr → List ℕ
instr_text i = instr_name i ++ spaced (operand_words i)

-- the lines of instructions, from place b on
abbrev pub instr_lines : ℕ → List Placed → List ℕ
instr_lines b [] = []
instr_lines b (i ∷ is) = decimal b ++ space ∷ instr_text i.instr ++ line_feed ∷ instr_lines (suc b) is

-- the lines of function f
abbrev pub function_lines : Code → ℕ → List ℕ
function_lines code f =
    codes "function " ++ (function_shape code.shapes f).name
    ++ line_feed ∷ instr_lines (entry code f) (take (end_of code f - entry code f) (drop (entry code f) code.places))

-- of n functions from number f on
abbrev pub all_lines : Code → (f n : ℕ) → List ℕ
all_lines code f zero = []
all_lines code f (suc n) = function_lines code f ++ all_lines code (suc f) n

abbrev pub listing_of : Code → List ℕ
listing_of code = all_lines code 0 (length code.shapes.functions)
