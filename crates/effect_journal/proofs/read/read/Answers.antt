use Rattle.std.proofs.Common.{◌≡◌, ◌≢◌, ◌∷◌, length, inr, sym, ap, ◌∙◌, arith, [], subst, length-append}
use Rattle.std.specs.Str.{bytes_eq}
use Rattle.std.proofs.lemmas.Bool.{not-true, not-false, true≢false}
use Rattle.std.proofs.lemmas.Slice.Eq.{bytes_eq-Decides}
use Rattle.effect_journal.specs.Journal.{Misspelled, Empty, Open, format_of}
use Rattle.effect_journal.proofs.ReadLaws.{shorter, other_header, begins, goes_on, no_entry, ends, goes_behind, empty, not_empty}
use Rattle.effect_journal.proofs.read.read.Goals as goal

pub returns-in_default : goal.returns-in_default
returns-in_default c = inr (Empty c.in_default.ensures)

pub returns-then-ne : goal.returns-then-ne
returns-then-ne c =
    let test = not-true (bytes_eq c.in-Some.first.now c.header.result.now) (sym c.ne.ensures ∙ c.if-ne.true) in
    let differ : c.in-Some.first.now ≢ (format_of c.args.version).header =
    λ same. true≢false (sym ((bytes_eq-Decides c.in-Some.first.now c.header.result.now).1 (same ∙ sym c.header.ensures)) ∙ test) in
    inr (other_header (format_of c.args.version) c.args.text.now c.in-Some.first.now c.in-Some.rest.now c.in-Some.ensures differ)

pub loop-next-init : goal.loop-next-init
loop-next-init c =
    let test = not-false (bytes_eq c.in-Some.first.now c.header.result.now) (sym c.ne.ensures ∙ c.if-ne.false) in
    let same : c.in-Some.first.now ≡ (format_of c.args.version).header = (bytes_eq-Decides c.in-Some.first.now c.header.result.now).0 test ∙ c.header.ensures in
    let h = begins (format_of c.args.version) c.args.text.now c.in-Some.first.now c.in-Some.rest.now c.in-Some.ensures same in
    record {
      begins = rw c.new-entries.ensures h;
      counted = omega (arith, ap length c.new-entries.ensures);
      within = omega (arith, shorter c.args.text.now c.in-Some.first.now c.in-Some.rest.now c.in-Some.ensures);
    }

pub returns-in_default-2 : goal.returns-in_default-2
returns-in_default-2 c =
    let none = rw c.in_default-2.is at c.in_ok-found.ensures in
    let h = no_entry (format_of c.args.version) c.loop-next.entries c.args.text.now c.loop-next.rest.now c.in-Some-next_line.next.now c.in-Some-next_line.behind.now
    c.loop-next.invariant.begins c.in-Some-next_line.ensures none in
    inr (subst (Misspelled (format_of c.args.version) c.args.text.now) (omega (arith, c.loop-next.invariant.counted)) h)

pub returns-then-is_empty : goal.returns-then-is_empty
returns-then-is_empty c =
    let found = rw c.in-Some-2.is at c.in_ok-found.ensures in
    let h = ends (format_of c.args.version) c.loop-next.entries c.args.text.now c.loop-next.rest.now c.in-Some-next_line.next.now c.in-Some-next_line.behind.now c.in-Some-2.found
    c.loop-next.invariant.begins c.in-Some-next_line.ensures found.0 found.1 (sym c.is_end-is_end.ensures ∙ c.if-is_end.true)
    (empty c.in-Some-next_line.behind.now (sym c.is_empty.ensures ∙ c.if-is_empty.true)) in
    inr (rw c.in_ok-push.ensures.ok h)

pub returns-then-is_end : goal.returns-then-is_end
returns-then-is_end c =
    let found = rw c.in-Some-2.is at c.in_ok-found.ensures in
    let h = goes_behind (format_of c.args.version) c.loop-next.entries c.args.text.now c.loop-next.rest.now c.in-Some-next_line.next.now c.in-Some-next_line.behind.now c.in-Some-2.found
    c.loop-next.invariant.begins c.in-Some-next_line.ensures found.0 found.1 (sym c.is_end-is_end.ensures ∙ c.if-is_end.true)
    (not_empty c.in-Some-next_line.behind.now (sym c.is_empty.ensures ∙ c.if-is_empty.false)) in
    inr (subst (Misspelled (format_of c.args.version) c.args.text.now) (omega (arith, c.loop-next.invariant.counted)) h)

pub loop-next-smaller : goal.loop-next-smaller
loop-next-smaller c = omega (arith, shorter c.loop-next.rest.now c.in-Some-next_line.next.now c.in-Some-next_line.behind.now c.in-Some-next_line.ensures)

pub loop-next-preserved : goal.loop-next-preserved
loop-next-preserved c =
    let found = rw c.in-Some-2.is at c.in_ok-found.ensures in
    let h = goes_on (format_of c.args.version) c.loop-next.entries c.args.text.now c.loop-next.rest.now c.in-Some-next_line.next.now c.in-Some-next_line.behind.now c.in-Some-2.found
    c.loop-next.invariant.begins c.in-Some-next_line.ensures found.0 found.1 (sym c.is_end-is_end.ensures ∙ c.if-is_end.false) in
    record {
      begins = rw c.in_ok-push.ensures.ok h;
      counted = omega (arith, c.loop-next.invariant.counted, ap length c.in_ok-push.ensures.ok, length-append c.loop-next.entries (c.in-Some-2.found ∷ []));
      within = omega (arith, shorter c.loop-next.rest.now c.in-Some-next_line.next.now c.in-Some-next_line.behind.now c.in-Some-next_line.ensures, c.loop-next.invariant.within);
    }

pub returns : goal.returns
returns c = inr (Open c.loop-next.entries c.loop-next.rest.now c.loop-next.invariant.begins c.in_default-next_line.ensures)
