-- One line more is rewritten, or stops it.
use Rattle.std.proofs.Common.{inr, sym, ◌∙◌}
use Rattle.effect_journal.proofs.ReadLaws.{empty, not_empty}
use Rattle.trace_check.proofs.Steps.{migrated_begun, no_line_1, migrated_more, migrated_all, more_behind, no_end_line}
use Rattle.trace_check.proofs.migration.rewrite.Goals as goal

pub loop-next-init : goal.loop-next-init
loop-next-init c = migrated_begun c.args.lines.now c.new-new.result c.write_header.new.out c.new-new.ensures c.in_ok-write_header.ensures.ok

pub returns-in_default-2 : goal.returns-in_default-2
returns-in_default-2 c =
    let none = rw c.in_default-2.is at c.in_ok-entry.ensures in
    inr (no_line_1 c.args.lines.now c.loop-next.rest.now c.in-Some.next.now c.in-Some.behind.now c.loop-next.new c.loop-next.line c.loop-next.invariant c.in-Some.ensures none)

pub returns-then-is_empty : goal.returns-then-is_empty
returns-then-is_empty c =
    let m = rw c.in-Some-2.is at c.in_ok-entry.ensures in
    inr (migrated_all c.args.lines.now c.loop-next.rest.now c.in-Some.next.now c.in-Some.behind.now c.loop-next.new c.loop-next.line c.loop-next.invariant c.in-Some.ensures
    c.write_entry.new.out c.in-Some-2.entry m c.in_ok-write_entry.ensures.ok (sym c.is_end.ensures ∙ c.if-is_end.true)
    (empty c.in-Some.behind.now (sym c.is_empty.ensures ∙ c.if-is_empty.true)))

pub returns-then-is_end : goal.returns-then-is_end
returns-then-is_end c =
    let m = rw c.in-Some-2.is at c.in_ok-entry.ensures in
    inr (more_behind c.args.lines.now c.loop-next.rest.now c.in-Some.next.now c.in-Some.behind.now c.loop-next.new c.loop-next.line c.loop-next.invariant c.in-Some.ensures
    c.write_entry.new.out c.in-Some-2.entry m c.in_ok-write_entry.ensures.ok (sym c.is_end.ensures ∙ c.if-is_end.true)
    (not_empty c.in-Some.behind.now (sym c.is_empty.ensures ∙ c.if-is_empty.false)))

pub loop-next-preserved-else-is_end : goal.loop-next-preserved-else-is_end
loop-next-preserved-else-is_end c =
    let m = rw c.in-Some-2.is at c.in_ok-entry.ensures in
    migrated_more c.args.lines.now c.loop-next.rest.now c.in-Some.next.now c.in-Some.behind.now c.loop-next.new c.loop-next.line c.loop-next.invariant c.in-Some.ensures
    c.write_entry.new.out c.in-Some-2.entry m c.in_ok-write_entry.ensures.ok (sym c.is_end.ensures ∙ c.if-is_end.false)

pub loop-next-preserved-else-is_end-2 : goal.loop-next-preserved-else-is_end-2
loop-next-preserved-else-is_end-2 c =
    let m = rw c.in-Some-2.is at c.in_ok-entry.ensures in
    migrated_more c.args.lines.now c.loop-next.rest.now c.in-Some.next.now c.in-Some.behind.now c.loop-next.new c.loop-next.line c.loop-next.invariant c.in-Some.ensures
    c.write_entry.new.out c.in-Some-2.entry m c.in_ok-write_entry.ensures.ok (sym c.is_end.ensures ∙ c.if-is_end.false)

pub loop-next-preserved : goal.loop-next-preserved
loop-next-preserved c =
    let m = rw c.in-Some-2.is at c.in_ok-entry.ensures in
    migrated_more c.args.lines.now c.loop-next.rest.now c.in-Some.next.now c.in-Some.behind.now c.loop-next.new c.loop-next.line c.loop-next.invariant c.in-Some.ensures
    c.write_entry.new.out c.in-Some-2.entry m c.in_ok-write_entry.ensures.ok (sym c.is_end.ensures ∙ c.if-is_end.false)

pub returns : goal.returns
returns c = inr (no_end_line c.args.lines.now c.loop-next.rest.now c.loop-next.new c.loop-next.line c.loop-next.invariant c.in_default.ensures)
