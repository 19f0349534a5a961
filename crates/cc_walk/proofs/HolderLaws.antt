-- A thread leaves the innermost function that it is inside.
use Rattle.std.proofs.Common.{◌≡◌, false, List, [], ◌∷◌, map, Some, None, refl, ap}
use Rattle.std.specs.Prelude.{slice_get}
use Rattle.cc_ops.specs.Machine.{value_of}
use Rattle.cc_core.specs.Core.{Shapes}
use Rattle.cc_ops.specs.Shelves.{Shelf}
use Rattle.numbered_runs.specs.Effects.{note_held, leave}
use Rattle.cc_walk.specs.Views.{inside_of}
use Rattle.cc_walk.specs.declared.live.Inside.{Inside}

pub left_innermost : (h : Shapes) (inside : List Inside) (e : Inside) (shelves : List Shelf) → Some e ≡ slice_get inside 0
    → leave h (map inside_of inside) shelves ≡ note_held h e.function (value_of e.object) false shelves
left_innermost h [] e shelves top = cc
left_innermost h (d ∷ inside) e shelves top =
    let same : d ≡ e = cc in
    ap (λ (x : Inside). note_held h x.function (value_of x.object) false shelves) same

pub left_none : (h : Shapes) (inside : List Inside) (shelves : List Shelf) → None ≡ slice_get inside 0
    → leave h (map inside_of inside) shelves ≡ shelves
left_none h [] shelves none = refl
left_none h (d ∷ inside) shelves none = cc
