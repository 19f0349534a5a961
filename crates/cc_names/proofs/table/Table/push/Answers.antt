use Rattle.std.proofs.Common.{◌≡◌, ◌∙◌}
use Rattle.std.specs.String.{string_eq}
use Rattle.indexmap.proofs.CallerLemmas.{insert_entry-new}
use Rattle.cc_names.proofs.TableLaws.{pushed}
use Rattle.cc_names.proofs.table.Table.push.Goals as goal

pub returns-clause-ok : goal.returns-clause-ok
returns-clause-ok g c =
    pushed c.self.inside.entries.entries c.insert.new.self.entries c.in_ok-name.name c.args.value c.args.name.now c.args.self.now
    (c.in_ok-name.ensures.ok ∙ c.as_str.ensures) c.self.view_is c.requires
    (λ absent. c.in_ok-insert.ensures.entries ∙ insert_entry-new string_eq c.self.inside.entries c.in_ok-name.name c.args.value absent)
