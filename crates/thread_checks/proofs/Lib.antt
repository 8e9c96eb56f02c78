mod Busy
