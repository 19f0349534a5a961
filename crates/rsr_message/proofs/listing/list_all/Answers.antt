-- One message more is listed, or the first that is none is told of.
use Rattle.std.proofs.Common.{refl, sym, subst, Err}
use Rattle.rsr_message.specs.Listings.{Tells}
use Rattle.rsr_message.proofs.ListingLaws.{listed_begun, listed_more, listing_stops}
use Rattle.rsr_message.proofs.listing.list_all.Goals as goal

pub loop-used-init : goal.loop-used-init
loop-used-init c = listed_begun _ _ c.new-lines.ensures.bytes

pub loop-used-preserved : goal.loop-used-preserved
loop-used-preserved c = let put = c.in-Ok.ensures.ok in listed_more _ c.loop-used.used c.in-Ok.len _ _ _ put.0 c.loop-used.invariant put.1 put.2

pub returns-in-Err : goal.returns-in-Err
returns-in-Err c =
    subst (λ answer. Tells c.args.bytes.now (Err answer)) (sym c.fault_behind.ensures)
    (listing_stops _ c.loop-used.used _ _ c.in-Err.fault c.loop-used.invariant c.loop-used-test.true (λ other. c.in-Err.ensures.refused c.in-Err.fault other refl))
