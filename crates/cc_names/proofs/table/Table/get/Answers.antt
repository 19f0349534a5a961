use Rattle.std.proofs.Common.{◌≡◌, ◌∙◌, ap}
use Rattle.cc_names.specs.Table.{entry, text_entries}
use Rattle.cc_names.proofs.TableLaws.{lookup_text}
use Rattle.cc_names.proofs.table.Table.get.Goals as goal

pub returns : goal.returns
returns g c = c.copied.ensures ∙ c.get.ensures.value ∙ lookup_text c.as_str.result.now c.self.inside.entries.entries
    ∙ ap (entry (text_entries c.self.inside.entries.entries)) c.as_str.ensures ∙ ap (λ t. entry t c.args.name.now) c.self.view_is
