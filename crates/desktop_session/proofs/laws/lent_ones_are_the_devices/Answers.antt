use Rattle.std.proofs.Common.{◌≡◌, slice_get}
use Rattle.std.specs.Prelude.{Some}
use Rattle.desktop_session.proofs.LentLaws.{ids_are, lent_at, lent_next, lent_of, lent_resource_at}
use Rattle.desktop_session.proofs.laws.lent_ones_are_the_devices.Goals as goal

pub returns : goal.returns
returns c = record {
  at = λ device handle place item half has. lent_at device handle place has.base item has.opened.proper has.opened.byte half has.opened.stands
      has.opened.records (let there : slice_get has.base.database.records place ≡ Some item = cc (has.is_found, has.there) in there);
  by_id = λ device handle id item word has. lent_of device handle id has.place has.base item has.opened.proper has.opened.byte word
      has.opened.stands has.opened.records has.is_found has.there;
  next = λ device handle item has. lent_next device handle has.place has.base item has.opened.proper has.opened.byte has.opened.stands
      has.opened.records has.is_found has.there;
  resource = λ device handle place resource half has. lent_resource_at device handle place has.base resource has.proper has.byte half has.stands
      has.resources has.there;
  ids = λ device handle count base opened half all. ids_are device handle count base opened.proper opened.byte half opened.stands
      opened.records all;
}
