use Rattle.std.proofs.Common.{length}
use Rattle.ccpp_words.proofs.settings.Settings.+of.Given as goal

abbrev pub decreases-of : goal.decreases-of
decreases-of l = length l.words.now
