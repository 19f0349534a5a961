-- A whole program has depths that fit its instructions.
use Rattle.std.proofs.Common.{ℕ, suc, ◌<◌, List, [], ◌∷◌, ◌++◌, length, false, refl, arith}
use Rattle.std.specs.Prelude.{get_or}
use Rattle.cc_core.specs.Core.{Function, Program, Shapes, shapes}
use Rattle.cc_core.specs.Source.{AreStmts, IsProgram}
use Rattle.cc_code.specs.Layout.{end_stmts, end_function, NoLoop, code_stmts, code_function, code_functions, entries, layout}
use Rattle.cc_code.specs.Depths.{AllZero, AllFlow, HaveDepths}
use Rattle.cc_follows.proofs.Lays.{after, ends}
use Rattle.cc_follows.proofs.Lays as lays
use Rattle.cc_follows.proofs.Deep.{flow_both, stmts_start, stmts_flow}
use Rattle.cc_follows.proofs.DepthList.{stmts_depths, stmts_end, HasDepths, parts, stmts_deep, listed}
use Rattle.cc_follows.proofs.Program.{Sources}

abbrev function_depths : Function → List ℕ
function_depths f = stmts_depths f.body ++ 0 ∷ 1 ∷ []

abbrev functions_depths : List Function → List ℕ
functions_depths [] = []
functions_depths (f ∷ fs) = function_depths f ++ functions_depths fs

module _ (h : Shapes) (ds : ℕ → ℕ) where
  functions_flow : (fs : List Function) (b : ℕ) → Sources h fs → HasDepths ds b (functions_depths fs)
      → AllFlow h ds b (code_functions b fs) × AllZero ds (entries b fs)
  functions_flow [] b s g = (tt, tt)
  functions_flow (f ∷ fs) b s g =
      let line = f.shape.line in
      let zero_below : 0 < length (f ∷ fs) = omega arith in
      let s0 : AreStmts h false f.body = s 0 zero_below in
      let end = end_stmts b f.body in
      let body_end = stmts_end h false b f.body s0 in
      let first = parts ds b (end_function b f) (function_depths f) _ (ends b end _ (stmts_depths f.body) _ body_end refl) g in
      let own = parts ds b end (stmts_depths f.body) _ body_end first.0 in
      let deep = stmts_deep h ds false b f.body s0 own.0 in
      let last = own.1.0 in
      let result = own.1.1.0 in
      let code_end = lays.stmts_end h line NoLoop b f.body s0 in
      let flows : AllFlow h ds b (code_function b f) = flow_both h ds b end (code_stmts line NoLoop b f.body) _ code_end
      (stmts_flow h ds line NoLoop b f.body s0 tt deep last) ((0, omega (arith, last), omega (arith, result)), (result, tt)) in
      let more = functions_flow fs (end_function b f) (λ k l. s (suc k) (omega arith)) first.1 in (
        flow_both h ds b (end_function b f) (code_function b f) _
            (ends b end _ (code_stmts line NoLoop b f.body) _ code_end refl) flows more.0,
        (stmts_start h ds b f.body deep last, more.1),
      )

pub layout_has_depths : (p : Program) → IsProgram p → HaveDepths (layout p)
layout_has_depths p s =
    let ds : ℕ → ℕ = λ b. get_or (functions_depths p.functions) b 0 in
    let both = functions_flow (shapes p) ds p.functions 0 s (listed (functions_depths p.functions)) in
    (ds, both.0, both.1)
