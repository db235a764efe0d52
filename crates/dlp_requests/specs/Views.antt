-- What contracts see of a request that is lent.
use Rattle.std.specs.Prelude.{◌≡◌, ℕ, List, Option}
use Rattle.std.specs.Option.{option_map}
use Rattle.dlp_requests.specs.declared.request.Request.{Request}
use Rattle.dlp_requests.specs.declared.request.Request.TheVariants as lent
use Rattle.dlp_requests.specs.Forms as form
use Rattle.dlp_requests.specs.Forms.{Form}
use Rattle.dlp_requests.specs.RequestReading.{request_in}
use Rattle.dlp_requests.specs.RequestValues.{RequestValue}

-- a lent request is what it says, with the bytes that it lends
abbrev pub request_value : Request → RequestValue
request_value lent.ReadUserInfo = record { form = form.ReadUserInfo; fields = tt }
request_value (lent.WriteUserInfo user viewer pc date bits name_len name) = record {
  form = form.WriteUserInfo;
  fields = (
    user,
    (viewer, (pc, (date, (bits, (name_len, (option_map (λ name. name.now) name, tt)))))),
  );
}
request_value lent.ReadSysInfo = record { form = form.ReadSysInfo; fields = tt }
request_value (lent.ReadSysInfoFor major minor) = record {
  form = form.ReadSysInfoFor;
  fields = (major, (minor, tt));
}
request_value (lent.ReadDbList flags card start) = record {
  form = form.ReadDbList;
  fields = (flags, (card, (start, tt)));
}
request_value (lent.OpenDb card mode name) = record {
  form = form.OpenDb;
  fields = (card, (mode, (name.now, tt)));
}
request_value (lent.CreateDb creator kind card flags version name) = record {
  form = form.CreateDb;
  fields = (
    creator.0,
    (kind.0, (card, (tt, (flags, (version, (name.now, tt)))))),
  );
}
request_value (lent.CloseDb handle) = record { form = form.CloseDb; fields = (handle, tt) }
request_value (lent.DeleteDb card name) = record {
  form = form.DeleteDb;
  fields = (card, (tt, (name.now, tt)));
}
request_value (lent.ReadAppBlock handle offset length) = record {
  form = form.ReadAppBlock;
  fields = (handle, (tt, (offset, (length, tt))));
}
request_value (lent.WriteAppBlock handle bytes) = record {
  form = form.WriteAppBlock;
  fields = (handle, (tt, (bytes.now, tt)));
}
request_value (lent.ReadSortBlock handle offset length) = record {
  form = form.ReadSortBlock;
  fields = (handle, (tt, (offset, (length, tt))));
}
request_value (lent.WriteSortBlock handle bytes) = record {
  form = form.WriteSortBlock;
  fields = (handle, (tt, (bytes.now, tt)));
}
request_value (lent.ReadNextModifiedRec handle) = record {
  form = form.ReadNextModifiedRec;
  fields = (handle, tt);
}
request_value (lent.ReadRecordById handle id offset length) = record {
  form = form.ReadRecordById;
  fields = (handle, (tt, (id, (offset, (length, tt)))));
}
request_value (lent.ReadRecordByIndex handle index offset length) = record {
  form = form.ReadRecordByIndex;
  fields = (
    handle,
    (tt, (index, (offset, (length, tt)))),
  );
}
request_value (lent.WriteRecord handle flags id attributes category bytes) = record {
  form = form.WriteRecord;
  fields = (
    handle,
    (flags, (id, (attributes, (category, (bytes.now, tt))))),
  );
}
request_value (lent.DeleteRecord handle flags id) = record {
  form = form.DeleteRecord;
  fields = (handle, (flags, (id, tt)));
}
request_value (lent.ReadResourceByIndex handle index offset length) = record {
  form = form.ReadResourceByIndex;
  fields = (
    handle,
    (tt, (index, (offset, (length, tt)))),
  );
}
request_value (lent.ReadResourceByType handle kind id offset length) = record {
  form = form.ReadResourceByType;
  fields = (
    handle,
    (tt, (kind.0, (id, (offset, (length, tt))))),
  );
}
request_value (lent.WriteResource handle kind id bytes) = record {
  form = form.WriteResource;
  fields = (handle, (tt, (kind.0, (id, (bytes.now, tt)))));
}
request_value (lent.DeleteResource handle flags kind id) = record {
  form = form.DeleteResource;
  fields = (handle, (flags, (kind.0, (id, tt))));
}
request_value (lent.CleanUpDatabase handle) = record {
  form = form.CleanUpDatabase;
  fields = (handle, tt);
}
request_value (lent.ResetSyncFlags handle) = record {
  form = form.ResetSyncFlags;
  fields = (handle, tt);
}
request_value (lent.AddSyncLogEntry text) = record {
  form = form.AddSyncLogEntry;
  fields = (text.now, tt);
}
request_value (lent.ReadOpenDbInfo handle) = record {
  form = form.ReadOpenDbInfo;
  fields = (handle, tt);
}
request_value (lent.MoveCategory handle from to) = record {
  form = form.MoveCategory;
  fields = (handle, (from, (to, (tt, tt))));
}
request_value lent.OpenConduit = record { form = form.OpenConduit; fields = tt }
request_value (lent.EndOfSync status) = record { form = form.EndOfSync; fields = (status, tt) }
request_value (lent.ResetRecordIndex handle) = record {
  form = form.ResetRecordIndex;
  fields = (handle, tt);
}
request_value (lent.ReadRecordIdList handle flags start maximum) = record {
  form = form.ReadRecordIdList;
  fields = (handle, (flags, (start, (maximum, tt))));
}

-- what was read is the request of this form in the bytes, or None where there is none
abbrev pub Reads : Form → List ℕ → Option Request → Type 0
Reads form bytes result = option_map request_value result ≡ request_in form bytes
