-- What a request is about.
use Rattle.dlp_requests.specs.Forms as form
use Rattle.dlp_requests.specs.Forms.{Form}

-- the code has a module for each group
pub data Group : Type 0 where
  Session : Group
  Database : Group
  Record : Group
  Resource : Group

-- the group of each form
abbrev pub group_of : Form → Group
group_of form.ReadDbList = Database
group_of form.OpenDb = Database
group_of form.CreateDb = Database
group_of form.CloseDb = Database
group_of form.DeleteDb = Database
group_of form.ReadAppBlock = Database
group_of form.WriteAppBlock = Database
group_of form.ReadSortBlock = Database
group_of form.WriteSortBlock = Database
group_of form.CleanUpDatabase = Database
group_of form.ResetSyncFlags = Database
group_of form.ReadOpenDbInfo = Database
group_of form.ReadNextModifiedRec = Record
group_of form.ReadRecordById = Record
group_of form.ReadRecordByIndex = Record
group_of form.WriteRecord = Record
group_of form.DeleteRecord = Record
group_of form.MoveCategory = Record
group_of form.ResetRecordIndex = Record
group_of form.ReadRecordIdList = Record
group_of form.ReadResourceByIndex = Resource
group_of form.ReadResourceByType = Resource
group_of form.WriteResource = Resource
group_of form.DeleteResource = Resource
group_of other = Session
