use Rattle.std.proofs.Common.{◌≡◌, ◌++◌, [], ◌∷◌, ap, ◌∙◌, arith, length, refl}
use Rattle.sync_cells.specs.Cells.{after_make}
use Rattle.sync_cells.proofs.ShownLaws.{shown-append, laid_out-append}
use Rattle.sync_cells.proofs.store.Store.make_list.Goals as goal

-- the cells and the objects behind the call
cells_are : (c : goal.After-push_reserved) → c.extend_from_slice.new.self.items ≡ c.self.inside.cells.items ++ c.args.cells.now
cells_are c = c.in_ok-extend_from_slice.ensures.items

objects_are : (c : goal.After-push_reserved) → c.push_reserved.new.self.items ≡ c.self.inside.objects.items ++ c.in_ok-extent.extent ∷ []
objects_are c = c.push_reserved.ensures.items ∙ ap (λ es. es ++ c.in_ok-extent.extent ∷ []) c.in_ok-extent.ensures.objects

start_is : (c : goal.After-push_reserved) → c.in_ok-extent.extent.start ≡ length c.self.inside.cells.items
start_is c = ap (λ e. e.start) c.in_ok-extent.ensures.extent ∙ omega arith

count_is : (c : goal.After-push_reserved) → c.in_ok-extent.extent.count ≡ length (c.args.cells.now)
count_is c = ap (λ e. e.count) c.in_ok-extent.ensures.extent ∙ refl

pub invariant_of-self-2 : goal.invariant_of-self-2
invariant_of-self-2 c =
    rw (cells_are c, objects_are c) (laid_out-append _ _ _ _ c.in_ok-extent.extent c.self.invariant (start_is c) (count_is c) c.requires.some (omega (arith, c.in_ok-extent.ensures.fits)))

pub returns-clause-made : goal.returns-clause-made
returns-clause-made c =
    rw (cells_are c, objects_are c)
    (shown-append _ _ _ (c.args.cells.now) c.in_ok-extent.extent c.self.invariant.tiled (start_is c) (count_is c) c.self.invariant.awaited
    ∙ ap (λ s. after_make s (c.args.cells.now)) c.self.view_is)
