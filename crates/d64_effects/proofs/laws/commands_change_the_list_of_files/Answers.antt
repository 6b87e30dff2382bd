use Rattle.d64_effects.proofs.ListedDisks.{formatted-disk_lists, written-disk_lists, scratched-disk_lists, renamed-disk_lists, named-disk_lists, validated-disk_lists, undeleted-disk_lists}
use Rattle.d64_effects.proofs.laws.commands_change_the_list_of_files.Goals as goal

pub returns-clause-formatted : goal.returns-clause-formatted
returns-clause-formatted c = formatted-disk_lists

pub returns-clause-written : goal.returns-clause-written
returns-clause-written c = written-disk_lists

pub returns-clause-scratched : goal.returns-clause-scratched
returns-clause-scratched c = scratched-disk_lists

pub returns-clause-renamed : goal.returns-clause-renamed
returns-clause-renamed c = renamed-disk_lists

pub returns-clause-validated : goal.returns-clause-validated
returns-clause-validated c = validated-disk_lists

pub returns-clause-named : goal.returns-clause-named
returns-clause-named c = named-disk_lists

pub returns-clause-undeleted : goal.returns-clause-undeleted
returns-clause-undeleted c = undeleted-disk_lists
