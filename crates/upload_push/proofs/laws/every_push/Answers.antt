use Rattle.upload_push.proofs.Count.{counted}
use Rattle.upload_push.proofs.Sound.{all_sound, over_stays, pushed_last, already_last, refused_last, unheard_waits}
use Rattle.upload_push.proofs.laws.every_push.Goals as goal

pub returns-clause-sound : goal.returns-clause-sound
returns-clause-sound c = all_sound

pub returns-clause-pushed : goal.returns-clause-pushed
returns-clause-pushed c = pushed_last

pub returns-clause-already : goal.returns-clause-already
returns-clause-already c = already_last

pub returns-clause-refused : goal.returns-clause-refused
returns-clause-refused c = refused_last

pub returns-clause-unheard : goal.returns-clause-unheard
returns-clause-unheard c = unheard_waits

pub returns-clause-count : goal.returns-clause-count
returns-clause-count c = counted

pub returns-clause-over : goal.returns-clause-over
returns-clause-over c = over_stays
