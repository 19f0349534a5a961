use Rattle.std.proofs.Common.{◌≡◌, ◌≤◌, ◌+◌, ◌++◌, vec_len, ℕ, List, [], ◌∷◌, take, replicate, ◌-◌, ap, sym, ◌∙◌, arith, length, refl}
use Rattle.std.proofs.lemmas.List.{take_all, length-replicate}
use Rattle.sync_cells.specs.Cells.{after_make}
use Rattle.sync_cells.proofs.ShownLaws.{shown-append, laid_out-append}
use Rattle.sync_cells.proofs.store.Store.make.Goals as goal

resized : {X : Type 0} (xs : List X) (m n k : ℕ) (x : X) → m ≡ length xs → n ≡ length xs → take (m + k) xs ++ replicate (m + k - n) x ≡ xs ++ replicate k x
resized xs m n k x e h =
    let more : m + k - n ≡ k = omega arith in
    let all : length xs ≤ m + k = omega arith in
    rw (more, take_all (m + k) xs all) refl

-- the cells and the objects behind the call
cells_are : (c : goal.After-push_reserved) → c.resize.new.self.items ≡ c.self.inside.cells.items ++ replicate c.args.count c.args.cell
cells_are c = c.in_ok-resize.ensures.items ∙ resized c.self.inside.cells.items c.len-made.result (vec_len c.self.inside.cells) _ _ (omega arith) (omega arith)

objects_are : (c : goal.After-push_reserved) → c.push_reserved.new.self.items ≡ c.self.inside.objects.items ++ c.in_ok-extent.extent ∷ []
objects_are c = c.push_reserved.ensures.items ∙ ap (λ es. es ++ c.in_ok-extent.extent ∷ []) c.in_ok-extent.ensures.objects

start_is : (c : goal.After-push_reserved) → c.in_ok-extent.extent.start ≡ length c.self.inside.cells.items
start_is c = ap (λ e. e.start) c.in_ok-extent.ensures.extent ∙ omega arith

count_is : (c : goal.After-push_reserved) → c.in_ok-extent.extent.count ≡ length (replicate c.args.count c.args.cell)
count_is c = ap (λ e. e.count) c.in_ok-extent.ensures.extent ∙ sym (length-replicate c.args.count c.args.cell)

pub invariant_of-self-2 : goal.invariant_of-self-2
invariant_of-self-2 c =
    rw (cells_are c, objects_are c) (laid_out-append _ _ _ _ c.in_ok-extent.extent c.self.invariant (start_is c) (count_is c) (omega (arith, length-replicate c.args.count c.args.cell)) (omega (arith, c.in_ok-extent.ensures.fits, length-replicate c.args.count c.args.cell)))

pub returns-clause-made : goal.returns-clause-made
returns-clause-made c =
    rw (cells_are c, objects_are c)
    (shown-append _ _ _ (replicate c.args.count c.args.cell) c.in_ok-extent.extent c.self.invariant.tiled (start_is c) (count_is c) c.self.invariant.awaited
    ∙ ap (λ s. after_make s (replicate c.args.count c.args.cell)) c.self.view_is)
