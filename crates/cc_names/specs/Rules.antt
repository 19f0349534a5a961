-- The static rules and limits by their names, and their order in the table of static rules.
use Rattle.std.specs.Prelude.{ℕ, List, codes}
use Rattle.cc_names.specs.declared.rule.StaticRule.{StaticRule}
use Rattle.cc_names.specs.declared.rule.StaticRule.TheVariants as r
use Rattle.cc_names.specs.declared.rule.StaticLimit.{StaticLimit}
use Rattle.cc_names.specs.declared.rule.StaticLimit.TheVariants as l

abbrev pub rule_name : StaticRule → List ℕ
rule_name r.NoMain = codes "NoMain"
rule_name r.NameTwice = codes "NameTwice"
rule_name r.BadMain = codes "BadMain"
rule_name r.LocalTwice = codes "LocalTwice"
rule_name r.UnknownClass = codes "UnknownClass"
rule_name r.UnknownName = codes "UnknownName"
rule_name r.UnknownMember = codes "UnknownMember"
rule_name r.BadDeclared = codes "BadDeclared"
rule_name r.BadConst = codes "BadConst"
rule_name r.BadType = codes "BadType"
rule_name r.NotPlace = codes "NotPlace"
rule_name r.ArgCount = codes "ArgCount"
rule_name r.NotFunction = codes "NotFunction"
rule_name r.MemberAddress = codes "MemberAddress"
rule_name r.RemoteLocal = codes "RemoteLocal"
rule_name r.ThisOutside = codes "ThisOutside"
rule_name r.MainCalled = codes "MainCalled"
rule_name r.ReturnInBranch = codes "ReturnInBranch"
rule_name r.ReturnValue = codes "ReturnValue"
rule_name r.ParforHeader = codes "ParforHeader"
rule_name r.Constructor = codes "Constructor"
rule_name r.AtomicBody = codes "AtomicBody"
rule_name r.LoopOutside = codes "LoopOutside"

abbrev pub limit_name : StaticLimit → List ℕ
limit_name l.Classes = codes "Classes"
limit_name l.Functions = codes "Functions"
limit_name l.Members = codes "Members"
limit_name l.Parameters = codes "Parameters"
limit_name l.ArrayLength = codes "ArrayLength"

-- the numbers of limits stand among those of rules
abbrev pub rule_number : StaticRule → ℕ
rule_number r.NoMain = 1
rule_number r.NameTwice = 2
rule_number r.BadMain = 7
rule_number r.LocalTwice = 8
rule_number r.UnknownClass = 9
rule_number r.UnknownName = 10
rule_number r.UnknownMember = 11
rule_number r.BadDeclared = 12
rule_number r.BadConst = 13
rule_number r.BadType = 15
rule_number r.NotPlace = 16
rule_number r.ArgCount = 17
rule_number r.NotFunction = 18
rule_number r.MemberAddress = 19
rule_number r.RemoteLocal = 20
rule_number r.ThisOutside = 21
rule_number r.MainCalled = 22
rule_number r.ReturnInBranch = 23
rule_number r.ReturnValue = 24
rule_number r.ParforHeader = 25
rule_number r.Constructor = 26
rule_number r.AtomicBody = 27
rule_number r.LoopOutside = 28

abbrev pub limit_number : StaticLimit → ℕ
limit_number l.Classes = 3
limit_number l.Functions = 4
limit_number l.Members = 5
limit_number l.Parameters = 6
limit_number l.ArrayLength = 14
