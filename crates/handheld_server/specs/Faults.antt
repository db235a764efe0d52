-- What a store's fault makes of a request, where it is no refusal.
use Rattle.handheld_store.specs.declared.fault.StoreFault.{StoreFault}
use Rattle.handheld_store.specs.declared.fault.StoreFault.TheVariants as store
use Rattle.handheld_server.specs.declared.fault.ServeFault.{ServeFault}
use Rattle.handheld_server.specs.declared.fault.ServeFault.TheVariants.{Keeper, NoMemory}

abbrev pub serve_fault : StoreFault → ServeFault
serve_fault store.KeeperFault = Keeper
serve_fault other = NoMemory
