-- The folders that a call hands back, or keeps in what it made.
use Rattle.std.specs.Prelude.{Result, Ok, Err}
use Rattle.handheld_store.specs.Stores.{StoreValue}

-- the folder of a store, or the one that is handed back
abbrev pub device_in : {F E : Type 0} → Result (StoreValue F) (E × F) → F
device_in (Ok store) = store.folder
device_in (Err refused) = refused.1

-- the folder, or the one that is handed back
abbrev pub folder_in : {F E : Type 0} → Result F (E × F) → F
folder_in (Ok folder) = folder
folder_in (Err refused) = refused.1
